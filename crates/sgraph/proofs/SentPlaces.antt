-- Places that a table sends to others.
use Rattle.std.proofs.Common.{◌≡◌, ℕ, ◌<◌, ◌≤◌, List, ◌∷◌, map, length, slice_index, ap, ◌∙◌, arith, []}

-- the first places were sent, and the others are as they were
pub record Sent (table places list : List ℕ) (j : ℕ) : Type 0 where
  pub long : length list ≡ length places
  pub sent : (i : ℕ) → i < j → slice_index list i ≡ slice_index table (slice_index places i)
  pub rest : (i : ℕ) → j ≤ i → slice_index list i ≡ slice_index places i

-- two items
pub two_items : (f : ℕ → ℕ) (items made : List ℕ) (a b : ℕ) → length items ≡ 2
    → a ≡ f (slice_index items 0) → b ≡ f (slice_index items 1) → made ≡ a ∷ b ∷ []
    → made ≡ map f items
two_items f [] made a b long is_a is_b e = absurd (omega arith)
two_items f (x ∷ []) made a b long is_a is_b e = absurd (omega arith)
two_items f (x ∷ y ∷ []) made a b long is_a is_b e =
    e ∙ ap (λ (n : ℕ). n ∷ b ∷ []) is_a ∙ ap (λ (n : ℕ). f x ∷ n ∷ []) is_b
two_items f (x ∷ y ∷ z ∷ more) made a b long is_a is_b e = absurd (omega arith)
