-- The order of numbers.
use Rattle.std.proofs.Common.{Bool, arith, false, inl, inr, nat_lt, refl, true, ℕ, ◌<◌, ◌≡◌, ◌≤◌, ◌⊎◌}

pub not_above_itself : (k : ℕ) → k ≤ k
not_above_itself k = omega arith

pub within_or_over : (a b : ℕ) → (a ≤ b) ⊎ (b < a)
within_or_over a b = cases (nat_lt b a) refl
  where
    cases : (t : Bool) → nat_lt b a ≡ t → (a ≤ b) ⊎ (b < a)
    cases true e = inr (grind (arith, e))
    cases false e = inl (grind (arith, e))
