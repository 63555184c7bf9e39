-- Something holds of a number below n, or of none.
use Rattle.std.specs.Prelude.{◌≡◌, ℕ, zero, suc, ◌+◌, ◌<◌, Bool, true, false, ◌||◌, ◌∷◌, []}
use Rattle.std.specs.List.{list_any}
use Rattle.std.proofs.Common.{ap, ◌∙◌, ⊎_elim, sym, arith, refl}
use Rattle.std.proofs.lemmas.Bool.{cases_Bool, cases_lt, false≢true, or_left}
use Rattle.std.proofs.lemmas.List.Folds.{list_any-append}
use Rattle.polis_base.specs.Lists.{upto}

or_last : (a b : Bool) → b ≡ true → (a || (b || false)) ≡ true
or_last true b h = refl
or_last false true h = refl
or_last false false h = absurd (false≢true h)

or_none : (a b : Bool) → a ≡ false → (a || (b || false)) ≡ true → b ≡ true
or_none true b h g = absurd (false≢true (sym h))
or_none false true h g = refl
or_none false false h g = absurd (false≢true g)

pub any_found : (p : ℕ → Bool) (n k : ℕ) → k < n → p k ≡ true → list_any p (upto n) ≡ true
any_found p zero k below on = absurd (omega arith)
any_found p (suc n) k below on =
    list_any-append p (upto n) (n ∷ [])
    ∙ ⊎_elim
    (λ less. or_left (list_any p (upto n)) (p n || false) (any_found p n k less on))
    (λ last.
    let same : n ≡ k = omega arith in
    or_last (list_any p (upto n)) (p n) (ap p same ∙ on)) (cases_lt k n)

pub found_below : (p : ℕ → Bool) (n : ℕ) → list_any p (upto n) ≡ true
    → (k : ℕ) × (k < n) × (p k ≡ true)
found_below p zero h = absurd (false≢true h)
found_below p (suc n) h =
    ⊎_elim
    (λ here.
    let there = found_below p n here in
    let less = there.1 in
    (there.0, omega arith, there.2))
    (λ none. (
      n,
      omega arith,
      or_none (list_any p (upto n)) (p n) none (sym (list_any-append p (upto n) (n ∷ [])) ∙ h),
    ))
    (cases_Bool (list_any p (upto n)))

pub none_more : (p : ℕ → Bool) (n : ℕ) → list_any p (upto n) ≡ false → p n ≡ false
    → list_any p (upto (n + 1)) ≡ false
none_more p n before here =
    (let e : n + 1 ≡ suc n = omega arith in ap (λ (k : ℕ). list_any p (upto k)) e)
    ∙ list_any-append p (upto n) (n ∷ [])
    ∙ ap (λ (b : Bool). b || (p n || false)) before
    ∙ ap (λ (b : Bool). b || false) here
