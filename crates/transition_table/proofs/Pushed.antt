-- What holds at each place of a list, of a list with one item more.
use Rattle.std.proofs.Common.{◌≡◌, ◌⊎◌, inl, inr, ⊎_elim, ℕ, zero, suc, ◌+◌, ◌<◌, List, [], ◌∷◌, ◌++◌, length, slice_get, get_or, Some, refl, sym, ap, subst, ◌∙◌, arith}
use Rattle.std.proofs.lemmas.Bool.{cases_eq}
use Rattle.std.proofs.lemmas.Option.{none-some, same_Some}
use Rattle.std.proofs.lemmas.List.{length_push, get_or_append_left, get_or_push}

pub long_pushed : {X : Type 0} (xs new : List X) (x : X) (n : ℕ) → new ≡ xs ++ x ∷ []
    → length xs ≡ n → length new ≡ n + 1
long_pushed xs new x n is long = ap length is ∙ length_push xs x ∙ ap (λ k. k + 1) long

pub each_pushed : {X : Type 0} (P : ℕ → X → Type 0) (d : X) (xs new : List X) (x : X) (n : ℕ)
    → new ≡ xs ++ x ∷ [] → length xs ≡ n → ((k : ℕ) → k < n → P k (get_or xs k d)) → P n x
    → (k : ℕ) → k < n + 1 → P k (get_or new k d)
each_pushed P d xs new x n is long each last k low =
    subst (λ l. P k (get_or l k d)) (sym is)
    (⊎_elim
    (λ same.
    subst (λ j. P j (get_or (xs ++ x ∷ []) j d)) (sym same)
    (subst (P n) (sym (get_or_push xs x d n long)) last))
    (λ other.
    let within : k < n = omega arith in
    subst (P k) (sym (get_or_append_left xs (x ∷ []) d k (omega arith))) (each k within))
    (cases_eq k n))

-- what is found is an item of before, or the last
found_cases : {X : Type 0} (xs : List X) (x y : X) (k : ℕ) → slice_get (xs ++ x ∷ []) k ≡ Some y
    → (slice_get xs k ≡ Some y) ⊎ ((k ≡ length xs) × (x ≡ y))
found_cases [] x y zero at = inr (refl, same_Some x y at)
found_cases [] x y (suc k) at = absurd (none-some y at)
found_cases (z ∷ xs) x y zero at = inl at
found_cases (z ∷ xs) x y (suc k) at =
    ⊎_elim (λ before. inl before) (λ last. inr (ap suc last.0, last.1)) (found_cases xs x y k at)

pub found_pushed : {X : Type 0} (P : ℕ → X → Type 0) (xs new : List X) (x : X) (n : ℕ)
    → new ≡ xs ++ x ∷ [] → length xs ≡ n → ((k : ℕ) (y : X) → slice_get xs k ≡ Some y → P k y)
    → P n x → (k : ℕ) (y : X) → slice_get new k ≡ Some y → P k y
found_pushed P xs new x n is long each last k y at =
    ⊎_elim (λ before. each k y before)
    (λ end.
    subst (λ j. P j y) (sym (end.0 ∙ long)) (subst (P n) end.1 last))
    (found_cases xs x y k (sym (ap (λ l. slice_get l k) is) ∙ at))
