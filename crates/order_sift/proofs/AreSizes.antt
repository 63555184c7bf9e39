-- Small facts on lists and products.
use Rattle.std.proofs.Common.{◌≡◌, ℕ, zero, suc, ◌*◌, ◌<◌, ◌≤◌, true, ◌&&◌, eqb, nat_lt, nat_le, List, ◌∷◌, refl, arith, []}
use Rattle.std.specs.List.{list_all}
use Rattle.std.proofs.lemmas.Bool.{and_parts, and_from, leb-true, lt-ltb, eq-eqb, or_left, or_right}
use Rattle.domains.specs.Tables.{are_sizes, product}
use Rattle.decision_diagram.specs.Sets.{stands}

pub all_below : (xs : List ℕ) (n : ℕ) → ((v : ℕ) → stands xs v ≡ true → v < n)
    → list_all (λ v. nat_lt v n) xs ≡ true
all_below [] n each = refl
all_below (x ∷ xs) n each =
    and_from (nat_lt x n) (list_all (λ v. nat_lt v n) xs)
    (lt-ltb x n (each x (or_left (eqb x x) (stands xs x) (eq-eqb x x refl))))
    (all_below xs n (λ v on. each v (or_right (eqb x v) (stands xs v) on)))

pub product_some : (sizes : List ℕ) → are_sizes sizes ≡ true → 1 ≤ product sizes
product_some [] h = omega arith
product_some (size ∷ sizes) h =
    let both = and_parts (nat_le 1 size && nat_le size 33) (are_sizes sizes) h in
    let one = leb-true 1 size (and_parts (nat_le 1 size) (nat_le size 33) both.0).0 in
    let rest = product_some sizes both.1 in
    below size (product sizes) one rest
  where
    below : (a b : ℕ) → 1 ≤ a → 1 ≤ b → 1 ≤ a * b
    below zero b one rest = elim one [ ]
    below (suc a) b one rest = grind arith

pub factor_below : (a b p q : ℕ) → a * (b * p) ≡ q → 1 ≤ p → a * b ≤ q
factor_below a b zero q e one = elim one [ ]
factor_below a b (suc p) q e one = grind arith
