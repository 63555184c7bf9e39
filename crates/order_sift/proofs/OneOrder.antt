-- Sifting comes to one order.
use Rattle.std.proofs.Common.{◌≡◌, ⊎_elim, ℕ, List, length, refl, sym, ◌∙◌, arith, subst}
use Rattle.std.proofs.lemmas.Bool.{cases_lt, cases_order}
use Rattle.polis_base.specs.declared.limits.TheConstants.{SIFTED_SNAPSHOTS_MAX}
use Rattle.domains.specs.Tables.{product}
use Rattle.transition_table.specs.declared.machine.Machine.{Machine}
use Rattle.char_function.specs.Orders.{first_order}
use Rattle.char_function.specs.Sizes.{IsSize}
use Rattle.char_function.proofs.SizeAlong.{one_size, one_first_size}
use Rattle.order_sift.specs.Laws.{OneLast, OneSifted}
use Rattle.order_sift.specs.Turns.{placed, IsAtBest, IsBetterPlace, next_item, Sifts, AllStood, Stands, Moves}

-- an item at its best has no better place
none_better : (m : Machine) (order : List ℕ) (item j : ℕ) → IsAtBest m order item
    → IsBetterPlace m order item j → ⊥
none_better m order item j best better =
    let low = best j better.allowed in
    let less = better.smaller in
    omega arith

-- and any item has one better place at most
one_better : (m : Machine) (order : List ℕ) (item j k : ℕ) → IsBetterPlace m order item j
    → IsBetterPlace m order item k → j ≡ k
one_better m order item j k one other =
    ⊎_elim
    (λ same. same)
    (⊎_elim
    (λ before.
    let a = other.first j before one.allowed in
    let b = one.least k other.allowed in
    absurd (omega arith))
    (λ after.
    let a = one.first k after other.allowed in
    let b = other.least j one.allowed in
    absurd (omega arith)))
    (cases_order j k)

pub one_last : OneLast
one_last m one other order item left (AllStood i) (AllStood k) = refl
one_last m one other order item left (Stands o i l best rest) (Stands p k n settled more) =
    one_last m one other o (next_item (length o) i) l rest more
one_last m one other order item left (Stands o i l best rest) (Moves p k n j better more) =
    absurd (none_better m o i j best better)
one_last m one other order item left (Moves o i l j better rest) (Stands p k n best more) =
    absurd (none_better m o i j best better)
one_last m one other order item left (Moves o i l j better rest) (Moves p k n h wins more) =
    one_last m one other (placed o i j) (next_item (length o) i) (length o) rest
    (subst (λ (x : ℕ). Sifts m other (placed o i x) (next_item (length o) i) (length o))
    (one_better m o i h j wins better) more)

pub one_sifted : OneSifted
one_sifted m one other first second count number a b =
    let same : one ≡ other =
    ⊎_elim
    (λ many. a.large many ∙ sym (b.large many))
    (λ few. one_last m one other (first_order m) 0 (length (first_order m)) (a.sifts few)
    (b.sifts few))
    (cases_lt SIFTED_SNAPSHOTS_MAX (product m.vars)) in (
      same,
      one_first_size m first second a.first b.first,
      one_size m other count number b.allowed.permutation b.allowed.long
          (subst (λ (o : List ℕ). IsSize m o count) same a.counted) b.counted,
    )
