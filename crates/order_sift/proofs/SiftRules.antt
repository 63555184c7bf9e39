-- What the rules of sifting leave.
use Rattle.std.proofs.Common.{◌≡◌, ⊎_elim, ℕ, suc, ◌+◌, ◌<◌, ◌≤◌, ◌==◌, List, length, refl, sym, ◌∙◌, arith, subst}
use Rattle.std.proofs.lemmas.Bool.{cases_eq, cases_lt, cond_both, eqb-true, eqb-false}
use Rattle.domains.specs.Orders.{IsPermutation, place, HavePlaces, OnePlace}
use Rattle.transition_table.specs.declared.machine.Machine.{Machine}
use Rattle.transition_table.specs.Orders.{Allowed}
use Rattle.char_function.specs.Sizes.{Size}
use Rattle.order_sift.specs.Turns.{placed, IsAtBest, next_item, Sifts, AllStood, Stands, Moves}
use Rattle.order_sift.specs.inner.Turns.{ComesTo, HasMoved, NoneSmaller}
use Rattle.order_sift.proofs.AtBest.{least_from_best}

-- ---- steps
-- an item stood, and one fewer is to stand
pub after_standing : (m : Machine) (old order new : List ℕ) (first many item next left rest : ℕ)
    → ComesTo m old first many order item left → left ≡ suc rest → new ≡ order
    → next ≡ next_item (length order) item → IsAtBest m order item
    → ComesTo m old first many new next rest
after_standing m old order new first many item next left rest comes more same is best last sifts =
    let by_order = subst (λ (o : List ℕ). Sifts m last o next rest) same sifts in
    let by_item = subst (λ (w : ℕ). Sifts m last order w rest) is by_order in
    let stands = Stands order item rest best by_item in
    comes last (subst (Sifts m last order item) (sym more) stands)

-- an item moved, and all are to stand
pub after_moving : (m : Machine) (old order new : List ℕ) (first many item next left rest : ℕ)
    → ComesTo m old first many order item left → left ≡ suc rest → HasMoved m item order new
    → length new ≡ length order → next ≡ next_item (length order) item
    → ComesTo m old first many new next (length new)
after_moving m old order new first many item next left rest comes more moved long is last sifts =
    let by_order = subst (λ (o : List ℕ). Sifts m last o next (length new)) moved.2 sifts in
    let by_item = subst (λ (w : ℕ). Sifts m last (placed order item moved.0) w (length new)) is
    by_order in
    let by_left = subst (Sifts m last (placed order item moved.0) (next_item (length order) item))
    long by_item in
    let moves = Moves order item rest moved.0 moved.1 by_left in
    comes last (subst (Sifts m last order item) (sym more) moves)

-- ---- what the last order has
pub no_larger : (m : Machine) (last order : List ℕ) (item left : ℕ) → Sifts m last order item left
    → Size m last ≤ Size m order
no_larger m last order item left (AllStood i) = omega arith
no_larger m last order item left (Stands o i l best rest) =
    no_larger m last o (next_item (length o) i) l rest
no_larger m last order item left (Moves o i l j better rest) =
    let low = no_larger m last (placed o i j) (next_item (length o) i) (length o) rest in
    let less = better.smaller in
    omega arith

pub next_below : (items item : ℕ) → item < items → next_item items item < items
next_below items item low =
    cond_both (suc item == items) 0 (suc item) (λ (w : ℕ). w < items)
    (λ same. omega arith)
    (λ differ. let apart = eqb-false (suc item) items differ in omega arith)

-- an order of which no single move is better stays
pub stays_last : (m : Machine) (last order : List ℕ) (item left : ℕ) → HavePlaces
    → IsPermutation order → item < length order → NoneSmaller m order → Sifts m last order item left
    → last ≡ order
stays_last m last order item left have permutation low none (AllStood i) = refl
stays_last m last order item left have permutation low none (Stands o i l best rest) =
    stays_last m last o (next_item (length o) i) l have permutation (next_below (length o) i low)
    none rest
stays_last m last order item left have permutation low none (Moves o i l j better rest) =
    let from = (have o i permutation low).0 in
    let least = none (placed o i j) (place o i, j, from, better.allowed.0, refl) better.allowed.1 in
    let less = better.smaller in
    absurd (omega arith)

-- of so many items this one isn't among those that are to stand from one on
abbrev pub HasStood : (items item left w : ℕ) → Type 0
HasStood items item left w = (item ≤ w → left + item ≤ w) × (w < item → left + item ≤ w + items)

stood_before : (items item left w : ℕ) → item < items → w < items → (w ≡ item → ⊥)
    → HasStood items (next_item items item) left w → HasStood items item (suc left) w
stood_before items item left w low inside other =
    cond_both (suc item == items) 0 (suc item)
    (λ (next : ℕ). HasStood items next left w → HasStood items item (suc left) w)
    (λ same stood.
    let last = eqb-true (suc item) items same in
    let all = stood.0 (omega arith) in
    (λ from. absurd (omega arith), λ before. omega arith))
    (λ differ stood. (
      λ from. let h = stood.0 (omega arith) in omega arith,
      λ before. let h = stood.1 (omega arith) in omega arith,
    ))

all_at_best : (m : Machine) (last order : List ℕ) (item left : ℕ) → Allowed m order
    → item < length order → left ≤ length order
    → ((w : ℕ) → w < length order → HasStood (length order) item left w → IsAtBest m order w)
    → Sifts m last order item left → (w : ℕ) → w < length last → IsAtBest m last w
all_at_best m last order item left allowed low few settled (AllStood i) w inside =
    settled w inside (λ from. omega arith, λ before. omega arith)
all_at_best m last order item left allowed low few settled (Stands o i l best rest) w inside =
    all_at_best m last o (next_item (length o) i) l allowed (next_below (length o) i low)
    (omega arith)
    (λ v within stood.
    ⊎_elim
    (λ same. subst (IsAtBest m o) (sym same) best)
    (λ other. settled v within (stood_before (length o) i l v low within other stood))
    (cases_eq v i))
    rest w inside
all_at_best m last order item left allowed low few settled (Moves o i l j better rest) w inside =
    let now : Allowed m (placed o i j) = better.allowed.1 in
    let same : length (placed o i j) ≡ length o = now.long ∙ sym allowed.long in
    let next : next_item (length o) i < length o = next_below (length o) i low in
    all_at_best m last (placed o i j) (next_item (length o) i) (length o) now (omega arith)
    (omega arith)
    (λ v within stood.
    ⊎_elim
    (λ before. absurd (let h = stood.1 before in omega arith))
    (λ from. absurd (let h = stood.0 from in omega arith))
    (cases_lt v (next_item (length o) i)))
    rest w inside

-- no single move of the last order is better, where all items were to stand
pub none_smaller_last : (m : Machine) (last order : List ℕ) → OnePlace → Allowed m order
    → Allowed m last → 0 < length order → Sifts m last order 0 (length order) → NoneSmaller m last
none_smaller_last m last order one allowed last_allowed some sifts =
    least_from_best m last one last_allowed
    (all_at_best m last order 0 (length order) allowed some (omega arith)
    (λ w inside stood. absurd (let h = stood.0 (omega arith) in omega arith)) sifts)
