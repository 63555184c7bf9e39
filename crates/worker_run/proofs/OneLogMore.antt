-- A log more.
use Rattle.std.specs.Prelude.{ℕ, zero, suc, List, [], ◌∷◌, ◌++◌, get_or, length}

-- what is so of each log, by its number, is so with one more
pub one_more : {X : Type 0} (P : ℕ → List X → Type 0) (logs : List (List X)) (log : List X)
    → P (length logs) log → ((m : ℕ) → P m (get_or logs m []))
    → (m : ℕ) → P m (get_or (logs ++ log ∷ []) m [])
one_more P [] log h all zero = h
one_more P [] log h all (suc m) = all (suc m)
one_more P (first ∷ logs) log h all zero = all zero
one_more P (first ∷ logs) log h all (suc m) =
    one_more (λ k. P (suc k)) logs log h (λ k. all (suc k)) m
