-- The first number that passes a test.
use Rattle.std.proofs.Common.{◌≡◌, ◌<◌, ◌≤◌, ℕ, zero, suc, Bool, true, false, nat_lt, [], ◌∷◌, Option, Some, None, refl, sym, ◌∙◌, arith}
use Rattle.std.specs.List.{find}
use Rattle.std.specs.Option.{option_or}
use Rattle.std.proofs.lemmas.List.Folds.{find-append}
use Rattle.std.proofs.lemmas.Bool.{ltb-true, ltb-false}
use Rattle.polis_base.specs.Lists.{upto}

-- the first number that passes
pub find_here : (test : ℕ → Bool) (n k : ℕ) → k < n → find test (upto k) ≡ None → test k ≡ true
    → find test (upto n) ≡ Some k
find_here test zero k below before here = absurd (omega arith)
find_here test (suc n) k below before here =
    elim (nat_lt k n) as (λ b. nat_lt k n ≡ b → find test (upto (suc n)) ≡ Some k) [
      | true ↦ λ e. rw (
        find-append test (upto n) (n ∷ []),
        find_here test n k (ltb-true k n e) before here,
      ) refl
      | false ↦ λ e. let above : n ≤ k = ltb-false k n e in
          let same : k ≡ n = omega arith in
          let none : find test (upto n) ≡ None = rw (← same) before in
          let passes : test n ≡ true = rw (← same) here in
          rw (find-append test (upto n) (n ∷ []), none, passes, same) refl
    ] refl

-- no number passes
pub find_none : (test : ℕ → Bool) (n : ℕ) → ((k : ℕ) → k < n → test k ≡ false)
    → find test (upto n) ≡ None
find_none test zero none = refl
find_none test (suc n) none =
    rw (
      find-append test (upto n) (n ∷ []),
      find_none test n (λ k below. none k (omega arith)),
      none n (omega arith),
    ) refl

-- the only number that passes
pub find_only : (test : ℕ → Bool) (n k : ℕ) → k < n → test k ≡ true
    → ((j : ℕ) → j < k → test j ≡ false) → find test (upto n) ≡ Some k
find_only test n k below here none = find_here test n k below (find_none test k none) here

-- a number that is found passes
pub find_is : (test : ℕ → Bool) (n k : ℕ) → find test (upto n) ≡ Some k → (k < n) × (test k ≡ true)
find_is test zero k h = cc
find_is test (suc n) k h =
    go (find test (upto n)) (test n) refl refl (sym (find-append test (upto n) (n ∷ [])) ∙ h)
    (λ e. find_is test n k e)
  where
    go : (o : Option ℕ) (b : Bool) → find test (upto n) ≡ o → test n ≡ b
        → option_or (find test (upto n)) (find test (n ∷ [])) ≡ Some k
        → (find test (upto n) ≡ Some k → (k < n) × (test k ≡ true)) → (k < suc n) × (test k ≡ true)
    go (Some j) b p q e more =
        let f = rw p at e in
        let r = more (p ∙ f) in
        (omega (arith, r.0), r.1)
    go None true p q e more =
        let f = rw (p, q) at e in
        let same : n ≡ k = cc in
        (rw same (omega arith), rw (← same) q)
    go None false p q e more =
        let f = rw (p, q) at e in
        cc
