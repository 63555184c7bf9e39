use Rattle.std.proofs.Common.{◌≡◌, ⊎_elim, ◌∙◌, ◌+◌, ◌-◌, ◌<◌, ◌≤◌, ◌||◌, ℕ, nat_eq, Bool, true, false, List, length, count_by, replicate, slice_index, sym, ap, subst, refl, arith}
use Rattle.std.proofs.lemmas.Bool.{cases_eq, eq-eqb, eqb-true, false≢true, or_cases, or_left, or_right}
use Rattle.std.proofs.lemmas.List.{length-replicate}
use Rattle.decision_diagram.specs.Diagrams.{Diagrams, IsNode}
use Rattle.std.specs.List.{list_any}
use Rattle.decision_diagram.specs.Reached.{marked}
use Rattle.decision_diagram.proofs.ReachedMarks.{AreMarked, marked_kids, mark_read, whole_part, counts_reached}
use Rattle.decision_diagram.proofs.DiagramLaws.{count_is_size}
use Rattle.decision_diagram.proofs.store.Store.count.Goals as goal
use Rattle.polis_base.proofs.Places.{nowhere_set}

-- at first the node itself is marked
first_marked : (s : Diagrams) (n number count : ℕ) (lent new : List Bool)
    → count ≡ length s.nodes + 2 → lent ≡ replicate (count - 2) false
    → length new ≡ length lent → number ≡ n → IsNode s n
    → ((m : ℕ) → 2 ≤ m → m < length lent + 2
    → marked new m ≡ (marked lent m || (nat_eq m number || false)))
    → AreMarked s n new (count - 2)
first_marked s n number count lent new counted blank same is inside made =
    let lent_long : length lent ≡ length s.nodes =
    ap (λ (xs : List Bool). length xs) blank ∙ length-replicate (count - 2) false
    ∙ (let e : count - 2 ≡ length s.nodes = omega arith in e) in
    let off : (m : ℕ) → marked lent m ≡ false =
    λ m. ap (λ (xs : List Bool). marked xs m) blank ∙ nowhere_set (count - 2) (m - 2) in
    record {
      long = same ∙ lent_long;
      within = omega arith;
      sound = λ m large node on.
          ⊎_elim (λ old. absurd (false≢true (sym (off m) ∙ old)))
          (λ here.
          ⊎_elim (λ eq. (0, sym (eqb-true m number eq ∙ is)))
          (λ none. absurd (false≢true none))
          (or_cases (nat_eq m number) false here))
          (or_cases (marked lent m) (nat_eq m number || false)
          (sym (made m large (omega arith)) ∙ on));
      root = λ large. made n large (omega arith)
          ∙ or_right (marked lent n) (nat_eq n number || false)
          (or_left (nat_eq n number) false (eq-eqb n number (sym is)));
      closed = λ k m high node on kid large. absurd (omega arith);
    }

pub loop-i-init : goal.loop-i-init
loop-i-init c =
    let s = c.args.self.now in
    let items = c.in_ok-marks.marks.items in
    let new = c.mark.new.marks in
    let lent = c.deref_mut.ensures.value in
    let marks = first_marked s c.args.n c.number.result c.node_count.result
    c.deref_mut.result.now new c.node_count.ensures.count
    (lent ∙ c.in_ok-marks.ensures.items_if_clones_equal (λ y same. same)) c.mark.auto.marks
    c.number.ensures c.requires c.mark.ensures in
    subst (λ (xs : List Bool). AreMarked s c.args.n xs (c.node_count.result - 2))
    (sym (whole_part new items c.in_ok-marks.marks.len
    (c.mark.auto.marks ∙ ap (λ (xs : List Bool). length xs) lent) c.in_ok-marks.marks.ok.0)) marks

-- a node that isn't marked has no children to mark
not_marked : (s : Diagrams) (n : ℕ) (marks : List Bool) (i : ℕ) → AreMarked s n marks i → 0 < i
    → marked marks (i - 1 + 2) ≡ false → AreMarked s n marks (i - 1)
not_marked s n marks i are some off =
    let within = are.within in
    record {
      long = are.long;
      within = omega arith;
      sound = are.sound;
      root = are.root;
      closed = λ k m high node on kid large.
          ⊎_elim
          (λ same. absurd (false≢true (sym off
          ∙ ap (λ (x : ℕ). marked marks x) (sym same) ∙ on)))
          (λ other. are.closed k m
          (let apart : (k ≡ i - 1 + 2 → ⊥) = other in omega arith) node on kid large)
          (cases_eq k (i - 1 + 2));
    }

place_low : (i long items : ℕ) → 0 < i → i ≤ items → long ≡ items → i - 1 < long
place_low i long items some within is = omega arith

node_low : (i nodes : ℕ) → 0 < i → i ≤ nodes → i - 1 + 2 < nodes + 2
node_low i nodes some within = omega arith

two_more : (i : ℕ) → 2 ≤ i + 2
two_more i = omega arith

pub index-requires : goal.index-requires
index-requires c =
    place_low c.loop-i.i c.loop-i.marks.len (length c.args.self.now.nodes) c.loop-i-test.true
    c.loop-i.invariant.within (c.loop-i.marks.ok.0 ∙ c.loop-i.invariant.long)

pub inner-node-requires-clause-inner : goal.inner-node-requires-clause-inner
inner-node-requires-clause-inner c = two_more (c.loop-i.i - 1)

pub inner-node-requires-clause-node : goal.inner-node-requires-clause-node
inner-node-requires-clause-node c =
    node_low c.loop-i.i (length c.args.self.now.nodes) c.loop-i-test.true
    c.loop-i.invariant.within

kid_low : (kid i nodes : ℕ) → kid < i - 1 + 2 → 0 < i → i ≤ nodes → kid < nodes + 2
kid_low kid i nodes low some within = omega arith

pub mark-requires-then-index : goal.mark-requires-then-index
mark-requires-then-index c code low =
    let nodes = c.args.self.now.nodes in
    let kids = c.inner-node.result.kids in
    let here : code < length kids =
    subst (λ (xs : List ℕ). code < length xs) c.kids.ensures low in
    let before = c.inner-node.ensures.before code here in
    let small : slice_index kids code < length nodes + 2 =
    kid_low (slice_index kids code) c.loop-i.i (length nodes) before c.loop-i-test.true
    c.loop-i.invariant.within in
    let long : length c.deref_mut-then-index.result.now ≡ length nodes =
    ap (λ (xs : List Bool). length xs) c.deref_mut-then-index.ensures.value
    ∙ c.loop-i.invariant.long in
    subst (λ (n : ℕ). slice_index c.kids.result.now code < n + 2) (sym long)
    (subst (λ (xs : List ℕ). slice_index xs code < length nodes + 2) (sym c.kids.ensures) small)

pub loop-i-preserved : goal.loop-i-preserved
loop-i-preserved c =
    let marks = c.loop-i.marks.items in
    let i = c.loop-i.i in
    not_marked c.args.self.now c.args.n marks i c.loop-i.invariant c.loop-i-test.true
    (mark_read marks (i - 1) (i - 1 + 2) c.index.result.now
    (place_low i (length marks) (length c.args.self.now.nodes) c.loop-i-test.true
    c.loop-i.invariant.within c.loop-i.invariant.long) refl c.index.ensures ∙ c.if-index.false)

pub loop-i-preserved-then-index : goal.loop-i-preserved-then-index
loop-i-preserved-then-index c =
    let old = c.loop-i.marks.items in
    let lent = c.deref_mut-then-index.result.now in
    let new = c.mark-then-index.new.marks in
    let same : lent ≡ old = c.deref_mut-then-index.ensures.value in
    let long : length new ≡ length old =
    c.mark-then-index.auto.marks ∙ ap (length {A = Bool}) same in
    let ok = c.loop-i.invariant.long in
    let on : marked old (c.loop-i.i - 1 + 2) ≡ true =
    mark_read old (c.loop-i.i - 1) (c.loop-i.i - 1 + 2) c.index.result.now
    (let h = c.loop-i-test.true in let w = c.loop-i.invariant.within in
    omega arith) refl c.index.ensures ∙ c.if-index.true in
    let after : (m : ℕ) → 2 ≤ m → m < length old + 2
    → marked new m ≡ (marked old m || list_any (nat_eq m) c.inner-node.result.kids) =
    λ m large h.
    c.mark-then-index.ensures m large (subst (λ (xs : List Bool). m < length xs + 2) (sym same) h)
    ∙ ap (λ (xs : List Bool). marked xs m || list_any (nat_eq m) c.kids.result.now) same
    ∙ ap (λ (xs : List ℕ). marked old m || list_any (nat_eq m) xs) c.kids.ensures in
    let all = marked_kids c.args.self.now c.args.n old new c.loop-i.i (c.loop-i.i - 1)
    c.inner-node.result c.loop-i.invariant (let h = c.loop-i-test.true in
    omega arith) on c.inner-node.ensures.node c.inner-node.ensures.before long after in
    subst (λ (xs : List Bool). AreMarked c.args.self.now c.args.n xs (c.loop-i.i - 1))
    (sym (whole_part new old c.loop-i.marks.len long (let h = c.loop-i.marks.ok.0 in
    omega arith))) all

pub returns : goal.returns
returns c =
    let s = c.args.self.now in
    let reached = counts_reached s c.args.n c.loop-i.marks.items c.loop-i.i c.marked_count.result
    c.loop-i.invariant (let d = c.loop-i-test.false in
    omega arith) (c.marked_count.ensures ∙ ap (count_by (λ b. b)) c.deref.ensures.value) in
    record {
      reached = reached;
      size = λ f means. count_is_size s c.args.n f c.marked_count.result
          c.same_value_same_node.ensures.reduced means reached;
    }
