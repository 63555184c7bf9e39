-- Lists joined, and lists read by their items.
use Rattle.std.proofs.Common.{◌≡◌, ⊎_elim, ℕ, zero, suc, ◌+◌, ◌<◌, Bool, true, cond, ◌||◌, List, [], ◌∷◌, length, slice_index, Some, refl, ap, sym, ◌∙◌, arith, eqb}
use Rattle.std.specs.List.{Contains}
use Rattle.std.proofs.lemmas.Bool.{cases_Bool, eq-eqb, or_left, or_right, true≢false}
use Rattle.std.proofs.lemmas.List.{get_or_default}
use Rattle.domains.specs.Orders.{place}
use Rattle.decision_diagram.specs.Diagrams.{Diagrams, Node, inner_at, kids_in, kids_of}
use Rattle.decision_diagram.specs.Reached.{Reaches}
use Rattle.decision_diagram.specs.Sets.{stands}

-- what stands in a list stands at its place
pub in_place : (xs : List ℕ) (n : ℕ) → stands xs n ≡ true → place xs n < length xs
in_place [] n h = absurd (true≢false (sym h))
in_place (x ∷ xs) n h =
    ⊎_elim
    (λ own. let e = ap (λ (b : Bool). cond {A = ℕ} b 0 (place xs n + 1)) own in omega arith)
    (λ other.
    let rest = in_place xs n (sym (ap (λ (b : Bool). b || stands xs n) other) ∙ h) in
    let e = ap (λ (b : Bool). cond {A = ℕ} b 0 (place xs n + 1)) other in
    omega arith)
    (cases_Bool (eqb x n))

pub stands_at : (xs : List ℕ) (i : ℕ) → i < length xs → stands xs (slice_index xs i) ≡ true
stands_at [] i low = absurd (omega arith)
stands_at (x ∷ xs) zero low = or_left (eqb x x) (stands xs x) (eq-eqb x x refl)
stands_at (x ∷ xs) (suc i) low =
    or_right (eqb x (slice_index xs i)) (stands xs (slice_index xs i))
    (stands_at xs i (omega arith))

-- a child of a node that is reached is reached
pub reaches_child : (s : Diagrams) (root n : ℕ) (node : Node) (c : ℕ) → Reaches s root n
    → inner_at s.nodes n ≡ Some node → c < length node.kids
    → Reaches s root (slice_index node.kids c)
reaches_child s root n node c there is low =
    let kid = slice_index node.kids c in
    let in_kids : Contains node.kids kid = (c, low, get_or_default node.kids c kid 0 low) in
    let e : kids_of s n ≡ node.kids = ap kids_in is in
    (suc (there.0), (n, there.1, rw e in_kids))
