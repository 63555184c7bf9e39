use Rattle.std.proofs.Common.{sym, arith, length, ◌<◌, ◌≤◌, ◌≡◌, subst, ℕ, List, slice_index}
use Rattle.decision_diagram.proofs.ListItems.{read}
use Rattle.decision_diagram.proofs.Places.{AreMarked, marked_none, marked_more, marked_all, too_high, again}
use Rattle.decision_diagram.proofs.order.places_of.Goals as goal
use Rattle.decision_diagram.proofs.order.places_of.Goals.{then-var-len-via-then-var-len, then-var-len-via-else-var-len+then-get-len}

pub loop-i-init : goal.loop-i-init
loop-i-init c = rw c.in_ok-places.ensures (marked_none c.args.list.now)

pub get-requires : goal.get-requires
get-requires c = omega (arith, c.loop-i.invariant.same)

pub returns-then-var-len-clause-none : goal.returns-then-var-len-clause-none
returns-then-var-len-clause-none c =
    let is = c.from-var.ensures in
    elim c.then-var-len.branch [
      | then-var-len-via-then-var-len w ↦
          too_high c.args.list.now c.loop-i.i c.loop-i-test.true (let high = w.if-var-len.true in
          omega arith)
      | then-var-len-via-else-var-len+then-get-len w ↦
          let low = w.if-var-len.false in
          let short = w.if-get-len.true in
          let met : slice_index c.loop-i.places c.from-var.result ≡ w.get.result.now =
          read c.loop-i.places c.from-var.result w.get.result.now 0 w.get.ensures in
          again c.args.list.now c.loop-i.places c.loop-i.i c.loop-i.invariant c.loop-i-test.true
          (omega arith) (subst (λ (v : ℕ). slice_index c.loop-i.places v
          < length c.args.list.now) is (omega arith))
    ]

pub set-requires : goal.set-requires
set-requires c = omega (arith, c.loop-i.invariant.same)

pub loop-i-preserved : goal.loop-i-preserved
loop-i-preserved c =
    let mark : slice_index c.loop-i.places c.from-var.result ≡ c.get.result.now =
    read c.loop-i.places c.from-var.result c.get.result.now 0 c.get.ensures in
    let high = c.if-get-len.false in
    rw c.set.ensures
    (marked_more c.args.list.now c.loop-i.places c.loop-i.i c.from-var.result c.loop-i.invariant
    c.loop-i-test.true (sym c.from-var.ensures) c.if-var-len.false (omega arith))

all_read : (list places : List ℕ) (i : ℕ) → AreMarked list places i → length list ≤ i
    → AreMarked list places (length list)
all_read list places i marked h =
    let within = marked.within in
    let e : i ≡ length list = omega arith in
    subst (λ (k : ℕ). AreMarked list places k) e marked

pub returns-clause-permutation : goal.returns-clause-permutation
returns-clause-permutation c =
    (marked_all c.args.list.now c.loop-i.places
    (all_read c.args.list.now c.loop-i.places c.loop-i.i c.loop-i.invariant c.loop-i-test.false)).0

pub returns-clause-places : goal.returns-clause-places
returns-clause-places c =
    (marked_all c.args.list.now c.loop-i.places
    (all_read c.args.list.now c.loop-i.places c.loop-i.i c.loop-i.invariant c.loop-i-test.false)).1
