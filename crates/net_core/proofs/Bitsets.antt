-- The numbers below another that pass a test, as those of a set of bits.
use Rattle.std.specs.Prelude.{◌≡◌, ◌≢◌, ℕ, zero, suc, ◌<◌, ◌≤◌, Bool, true, false, cond, ◌==◌, List, [], ◌∷◌, ◌++◌, filter, None, Some, find}
use Rattle.std.specs.Option.{option_or}
use Rattle.std.proofs.Common.{refl, sym, ap, ◌∙◌, inl, inr, arith}
use Rattle.std.proofs.lemmas.List.{append-nil}
use Rattle.std.proofs.lemmas.List.Elements.{filter-append}
use Rattle.std.proofs.lemmas.List.Folds.{find-append}
use Rattle.std.proofs.lemmas.Bool.{eq-eqb, ne_eqb, cases_eq, both_ways}
use Rattle.polis_base.specs.Lists.{upto}
use Rattle.polis_base.proofs.Lists.{one_more, same_below}
use Rattle.journals.specs.Schedules.{without_first}

-- all of a or more fail
pub none_past : (p : ℕ → Bool) (a n : ℕ) → a ≤ n → ((k : ℕ) → a ≤ k → p k ≡ false)
    → filter p (upto n) ≡ filter p (upto a)
none_past p a zero within h = let same : 0 ≡ a = omega arith in ap (λ k. filter p (upto k)) same
none_past p a (suc n) within h =
    elim (cases_eq (suc n) a) [
      | inl same ↦ ap (λ k. filter p (upto k)) same
      | inr other ↦
          let apart : suc n ≢ a = other in
          one_more p n
          ∙ ap (λ b. filter p (upto n) ++ cond b (n ∷ []) []) (h n (omega arith))
          ∙ append-nil (filter p (upto n))
          ∙ none_past p a n (omega arith) h
    ]

-- ---- one of them

-- one that fails isn't among them
pub none_is : (p : ℕ → Bool) (m n : ℕ) → p m ≡ false → filter (λ k. k == m) (filter p (upto n)) ≡ []
none_is p m zero h = refl
none_is p m (suc n) h =
    ap (filter (λ k. k == m)) (one_more p n)
    ∙ filter-append (λ k. k == m) (filter p (upto n)) (cond (p n) (n ∷ []) [])
    ∙ ap (λ l. l ++ filter (λ k. k == m) (cond (p n) (n ∷ []) [])) (none_is p m n h)
    ∙ last (p n) refl
  where
    last : (b : Bool) → p n ≡ b → filter (λ k. k == m) (cond b (n ∷ []) []) ≡ []
    last true is = let other : (n == m) ≡ false =
        ne_eqb n m (λ e. both_ways (p m) h (sym (ap p e) ∙ is)) in rw other refl
    last false is = refl

pub find_none : {X : Type 0} (t : X → Bool) (xs : List X) → filter t xs ≡ [] → find t xs ≡ None
find_none t [] h = refl
find_none t (x ∷ xs) h = cases (t x) h (find_none t xs)
  where
    cases : (b : Bool) → cond b (x ∷ filter t xs) (filter t xs) ≡ []
        → (filter t xs ≡ [] → find t xs ≡ None) → cond b (Some x) (find t xs) ≡ None
    cases true h rest = cc
    cases false h rest = rest h

abbrev but_not : (ℕ → Bool) → ℕ → ℕ → Bool
but_not p m k = cond (k == m) false (p k)

but_own : (p : ℕ → Bool) (m : ℕ) → but_not p m m ≡ false
but_own p m = rw (eq-eqb m m refl) refl

but_other : (p : ℕ → Bool) (m k : ℕ) → k ≢ m → but_not p m k ≡ p k
but_other p m k other = rw (ne_eqb k m other) refl

-- a number isn't among those below it
below_lack : (p : ℕ → Bool) (m : ℕ) → filter (λ k. k == m) (filter p (upto m)) ≡ []
below_lack p m =
    ap (filter (λ k. k == m))
    (same_below p (but_not p m) m (λ k below.
    sym (but_other p m k (λ e. absurd (omega arith)))))
    ∙ none_is (but_not p m) m m (but_own p m)

-- one that passes is
pub one_is : (p : ℕ → Bool) (m n : ℕ) → m < n → p m ≡ true
    → find (λ k. k == m) (filter p (upto n)) ≡ Some m
one_is p m zero within here = absurd (omega arith)
one_is p m (suc n) within here =
    ap (find (λ k. k == m)) (one_more p n)
    ∙ find-append (λ k. k == m) (filter p (upto n)) (cond (p n) (n ∷ []) [])
    ∙ (elim (cases_eq n m) [
      | inl same ↦
          let own : p n ≡ true = ap p same ∙ here in
          let none : find (λ k. k == m) (filter p (upto n)) ≡ None =
          ap (λ i. find (λ k. k == m) (filter p (upto i))) same
          ∙ find_none (λ k. k == m) (filter p (upto m)) (below_lack p m) in
          ap (λ o. option_or o (find (λ k. k == m) (cond (p n) (n ∷ []) []))) none
          ∙ ap (λ b. find (λ k. k == m) (cond b (n ∷ []) [])) own ∙ last (eq-eqb n m same) same
      | inr other ↦ ap (λ o. option_or o (find (λ k. k == m) (cond (p n) (n ∷ []) [])))
          (one_is p m n (let apart : n ≢ m = other in omega arith) here)
    ])
  where
    last : (n == m) ≡ true → n ≡ m → find (λ k. k == m) (n ∷ []) ≡ Some m
    last is same = rw is (ap Some same)

-- ---- one of them less

without_last : {X : Type 0} (t : X → Bool) (xs : List X) (y : X) → filter t xs ≡ [] → t y ≡ true
    → without_first t (xs ++ y ∷ []) ≡ xs
without_last t [] y h is = rw is refl
without_last t (x ∷ xs) y h is = cases (t x) refl h (without_last t xs y)
  where
    cases : (b : Bool) → t x ≡ b → cond b (x ∷ filter t xs) (filter t xs) ≡ []
        → (filter t xs ≡ [] → t y ≡ true → without_first t (xs ++ y ∷ []) ≡ xs)
        → cond b (xs ++ y ∷ []) (x ∷ without_first t (xs ++ y ∷ [])) ≡ x ∷ xs
    cases true e h rest = cc
    cases false e h rest = ap (λ l. x ∷ l) (rest h is)

without_before : {X : Type 0} (t : X → Bool) (xs : List X) (y : X) → t y ≡ false
    → without_first t (xs ++ y ∷ []) ≡ without_first t xs ++ y ∷ []
without_before t [] y fails = rw fails refl
without_before t (x ∷ xs) y fails = cases (t x) (without_before t xs y fails)
  where
    cases : (b : Bool) → without_first t (xs ++ y ∷ []) ≡ without_first t xs ++ y ∷ []
        → cond b (xs ++ y ∷ []) (x ∷ without_first t (xs ++ y ∷ []))
        ≡ cond b xs (x ∷ without_first t xs) ++ y ∷ []
    cases true rest = refl
    cases false rest = ap (λ l. x ∷ l) rest

pub without_one : (p q : ℕ → Bool) (m n : ℕ) → m < n → p m ≡ true → q m ≡ false
    → ((k : ℕ) → k < n → k ≢ m → q k ≡ p k)
    → without_first (λ k. k == m) (filter p (upto n)) ≡ filter q (upto n)
without_one p q m zero within here gone same = absurd (omega arith)
without_one p q m (suc n) within here gone same =
    ap (without_first (λ k. k == m)) (one_more p n)
    ∙ (elim (cases_eq n m) [
      | inl is ↦
          let own : p n ≡ true = ap p is ∙ here in
          let off : q n ≡ false = ap q is ∙ gone in
          let lack : filter (λ k. k == m) (filter p (upto n)) ≡ [] =
          ap (λ i. filter (λ k. k == m) (filter p (upto i))) is ∙ below_lack p m in
          ap (λ b. without_first (λ k. k == m) (filter p (upto n) ++ cond b (n ∷ []) [])) own
          ∙ without_last (λ k. k == m) (filter p (upto n)) n lack (eq-eqb n m is)
          ∙ same_below p q n (λ k below. sym (same k (omega arith) (λ e. absurd (omega arith))))
          ∙ sym (append-nil (filter q (upto n)))
          ∙ ap (λ b. filter q (upto n) ++ cond b (n ∷ []) []) (sym off)
      | inr other ↦
          let rest = without_one p q m n (let apart : n ≢ m = other in
          omega arith) here gone (λ k below apart. same k (omega arith) apart) in
          further (p n) (ne_eqb n m other)
          ∙ ap (λ l. l ++ cond (p n) (n ∷ []) []) rest
          ∙ ap (λ b. filter q (upto n) ++ cond b (n ∷ []) []) (sym (same n (omega arith) other))
    ])
    ∙ sym (one_more q n)
  where
    further : (b : Bool) → (n == m) ≡ false
        → without_first (λ k. k == m) (filter p (upto n) ++ cond b (n ∷ []) [])
        ≡ without_first (λ k. k == m) (filter p (upto n)) ++ cond b (n ∷ []) []
    further true fails = without_before (λ k. k == m) (filter p (upto n)) n fails
    further false fails = ap (without_first (λ k. k == m)) (append-nil (filter p (upto n)))
        ∙ sym (append-nil (without_first (λ k. k == m) (filter p (upto n))))
