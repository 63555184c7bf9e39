-- Lists that fit stand in the order of their numbers, and one of them is the least.
use Rattle.std.proofs.Common.{◌≡◌, ◌+◌, ◌*◌, ◌<◌, ◌≤◌, ℕ, nat_lt, List, [], ◌∷◌, arith, ap, sym, inl, inr, refl}
use Rattle.std.specs.Cmp.{nat_cmp_is}
use Rattle.std.specs.declared.cmp.Ordering.TheVariants.{Less, Equal, Greater}
use Rattle.std.proofs.lemmas.Bool.{and_parts, cases_order}
use Rattle.std.proofs.Math.Nat.{mul-le-mul_right}
use Rattle.domains.specs.Least.{IsLeast, OrdersAgree}
use Rattle.domains.specs.Tables.{fits, product, rank}
use Rattle.domains.proofs.Ranks.{ranks_below, ranks_differ}

-- a place in an earlier row of a grid stands before one in a later row
before_row : (a b w x y : ℕ) → x < w → a < b → a * w + x < b * w + y
before_row a b w x y within less =
    let next : a + 1 ≤ b = omega arith in
    omega (arith, mul-le-mul_right w next)

pub orders_agree : OrdersAgree
orders_agree [] [] [] fa fb = (λ up. omega arith, λ low. λ e. cc)
orders_agree [] [] (y ∷ ys) fa fb = cc
orders_agree [] (x ∷ xs) b fa fb = cc
orders_agree (size ∷ sizes) [] b fa fb = cc
orders_agree (size ∷ sizes) (x ∷ xs) [] fa fb = cc
orders_agree (size ∷ sizes) (x ∷ xs) (y ∷ ys) fa fb =
    let pa = and_parts (nat_lt x size) (fits sizes xs) fa in
    let pb = and_parts (nat_lt y size) (fits sizes ys) fb in
    let w = product sizes in
    let in_a : rank sizes xs < w = ranks_below sizes xs pa.1 in
    let in_b : rank sizes ys < w = ranks_below sizes ys pb.1 in
    elim (cases_order x y) [
      | inl same ↦
          let rest = orders_agree sizes xs ys pa.1 pb.1 in
          let rows : x * w ≡ y * w = ap (λ (n : ℕ). n * w) same in
          rw (sym (nat_cmp_is x y Equal same))
          (λ up. let low = rest.0 up in omega (arith, rows), λ low. rest.1 (omega (arith, rows)))
      | inr (inl less) ↦
          let before = before_row x y w (rank sizes xs) (rank sizes ys) in_a less in
          rw (sym (nat_cmp_is x y Less less)) (λ up. omega (arith, before), λ low. λ e. cc)
      | inr (inr more) ↦
          let before = before_row y x w (rank sizes ys) (rank sizes xs) in_b more in
          rw (sym (nat_cmp_is x y Greater more))
          (λ up. absurd (up refl), λ low. absurd (omega (arith, before)))
    ]

-- of no two lists each is the least
pub one_least : (sizes : List ℕ) (P : List ℕ → Type 0) (a b : List ℕ) → IsLeast sizes P a
    → IsLeast sizes P b → a ≡ b
one_least sizes P a b first second =
    let low = first.least b second.fit second.holds in
    let high = second.least a first.fit first.holds in
    ranks_differ sizes a b first.fit second.fit (omega arith)
