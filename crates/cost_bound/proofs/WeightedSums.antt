-- The number of a list of codes as a sum over the variables.
use Rattle.std.proofs.Common.{◌≡◌, ℕ, zero, suc, ◌+◌, ◌*◌, ◌<◌, List, [], ◌∷◌, length, replicate, slice_index, slice_set, refl, ap, arith}
use Rattle.domains.specs.Tables.{product, rank}
use Rattle.cost_bound.specs.inner.Scores.{weights_of}

abbrev pub dot : List ℕ → List ℕ → ℕ
dot [] s = 0
dot (w ∷ ws) [] = 0
dot (w ∷ ws) (x ∷ xs) = x * w + dot ws xs

pub dot_weights : (sizes s : List ℕ) → dot (weights_of sizes) s ≡ rank sizes s
dot_weights [] s = refl
dot_weights (size ∷ sizes) [] = refl
dot_weights (size ∷ sizes) (x ∷ xs) =
    ap (λ (n : ℕ). x * product sizes + n) (dot_weights sizes xs)

-- another code at one place
pub dot_set : (ws s : List ℕ) (v j : ℕ) → v < length s
    → dot ws (slice_set s v j) + slice_index s v * slice_index ws v
    ≡ dot ws s + j * slice_index ws v
dot_set [] s v j low = omega arith
dot_set (w ∷ ws) [] v j low = absurd (omega arith)
dot_set (w ∷ ws) (x ∷ xs) zero j low = omega arith
dot_set (w ∷ ws) (x ∷ xs) (suc v) j low =
    let r = dot_set ws xs v j (omega arith) in
    omega arith

pub dot_zeros : (ws : List ℕ) (n : ℕ) → dot ws (replicate n 0) ≡ 0
dot_zeros [] n = refl
dot_zeros (w ∷ ws) zero = refl
dot_zeros (w ∷ ws) (suc n) = omega (arith, dot_zeros ws n)
