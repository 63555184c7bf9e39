-- One more at a place, and zeros after it, made place by place.
use Rattle.std.proofs.Common.{◌≡◌, ℕ, zero, suc, ◌+◌, ◌<◌, List, [], ◌∷◌, ◌++◌, length, replicate, take, drop, set, slice_index, length-append, length-drop, arith, ap, refl}
use Rattle.std.proofs.lemmas.List.{length-take, length-replicate}
use Rattle.domains.specs.Tables.{stepped}

-- the place itself
pub stepped_first : (codes : List ℕ) (k : ℕ) → k < length codes
    → set codes k (slice_index codes k + 1) ≡ take (suc k) (stepped codes k) ++ drop (suc k) codes
stepped_first [] k below = absurd (omega arith)
stepped_first (code ∷ codes) zero below = refl
stepped_first (code ∷ codes) (suc k) below =
    ap (λ (xs : List ℕ). code ∷ xs) (stepped_first codes k (omega arith))

-- one zero more
zeros_more : (codes : List ℕ) (j : ℕ) → j < length codes
    → set (take j (replicate (length codes) 0) ++ drop j codes) j 0
    ≡ take (suc j) (replicate (length codes) 0) ++ drop (suc j) codes
zeros_more [] j below = absurd (omega arith)
zeros_more (code ∷ codes) zero below = refl
zeros_more (code ∷ codes) (suc j) below =
    ap (λ (xs : List ℕ). 0 ∷ xs) (zeros_more codes j (omega arith))

pub stepped_more : (codes : List ℕ) (k j : ℕ) → k < j → j < length codes
    → set (take j (stepped codes k) ++ drop j codes) j 0
    ≡ take (suc j) (stepped codes k) ++ drop (suc j) codes
stepped_more [] k j after below = absurd (omega arith)
stepped_more (code ∷ codes) k zero after below = absurd (omega arith)
stepped_more (code ∷ codes) zero (suc j) after below =
    ap (λ (xs : List ℕ). (code + 1) ∷ xs) (zeros_more codes j (omega arith))
stepped_more (code ∷ codes) (suc k) (suc j) after below =
    ap (λ (xs : List ℕ). code ∷ xs) (stepped_more codes k j (omega arith) (omega arith))

-- all of them
zeros_all : (codes : List ℕ) → take (length codes) (replicate (length codes) 0)
    ++ drop (length codes) codes ≡ replicate (length codes) 0
zeros_all [] = refl
zeros_all (code ∷ codes) = ap (λ (xs : List ℕ). 0 ∷ xs) (zeros_all codes)

pub stepped_all : (codes : List ℕ) (k : ℕ)
    → take (length codes) (stepped codes k) ++ drop (length codes) codes ≡ stepped codes k
stepped_all [] k = refl
stepped_all (code ∷ codes) zero = ap (λ (xs : List ℕ). (code + 1) ∷ xs) (zeros_all codes)
stepped_all (code ∷ codes) (suc k) = ap (λ (xs : List ℕ). code ∷ xs) (stepped_all codes k)

-- what is made so far is as long as the list
pub length_stepped : (codes : List ℕ) (k : ℕ) → length (stepped codes k) ≡ length codes
length_stepped [] k = refl
length_stepped (code ∷ codes) zero = ap suc (length-replicate (length codes) 0)
length_stepped (code ∷ codes) (suc k) = ap suc (length_stepped codes k)

pub length_made : (codes : List ℕ) (k j : ℕ) (made : List ℕ)
    → made ≡ take j (stepped codes k) ++ drop j codes → length made ≡ length codes
length_made codes k j made e =
    omega (
      arith,
      ap length e,
      length-append (take j (stepped codes k)) (drop j codes),
      length-take j (stepped codes k),
      length-drop j codes,
      length_stepped codes k,
    )
