-- What the numbers of names keep of the names.
use Rattle.std.proofs.Common.{◌≡◌, ◌∙◌, ℕ, zero, suc, ◌+◌, Bool, true, false, cond, not, ◌||◌, ◌==◌, List, ◌∷◌, ◌++◌, map, slice_get, Option, Some, None, is_some, unwrap_or, refl, ap, sym, true≢false, []}
use Rattle.std.proofs.Math.Dec.{eqb-suc-zero, eqb-zero-suc, eqb-suc-suc}
use Rattle.std.specs.Option.{option_map}
use Rattle.std.specs.List.{list_any, AllZip}
use Rattle.std.specs.Cmp.Lexicographic.{nat_list_eq_equiv}
use Rattle.polis_base.specs.Lists.{places_from}
use Rattle.domains.specs.Names.{is_same, are_distinct}
use Rattle.transition_table.specs.NetworkFacts.{has as has_number}
use Rattle.transition_table.specs.declared.machine.Machine.{Machine}
use Rattle.net_reader.specs.declared.raw.Word.{Word}
use Rattle.net_reader.specs.declared.raw.RawMachine.{RawMachine}
use Rattle.net_names.specs.Places.{unless}
use Rattle.net_names.specs.Numbers.{names_of, number_in, is_among, is_name_of, missing, number}
use Rattle.net_names.proofs.NameNumbers.{among_number}
use Rattle.std.proofs.lemmas.Bool.{not-true}
use Rattle.polis_base.proofs.Bools.{and_first, and_second}
use Rattle.polis_base.proofs.Places.{some_is}

-- a name of the list is not the same as one that is none of the list
other_name : (name : List ℕ) (names : List (List ℕ)) (i : ℕ) (n : List ℕ)
    → list_any (is_same name) names ≡ false → slice_get names i ≡ Some n → is_same name n ≡ false
other_name name [] i n none at = absurd (true≢false (sym (ap is_some at)))
other_name name (m ∷ names) zero n none at =
    sym (ap (is_same name) (some_is m n at)) ∙ by (is_same name m) none
  where
    by : (b : Bool) → (b || list_any (is_same name) names) ≡ false → b ≡ false
    by true h = h
    by false h = refl
other_name name (m ∷ names) (suc i) n none at =
    other_name name names i n (by (is_same name m) none) at
  where
    by : (b : Bool) → (b || list_any (is_same name) names) ≡ false
        → list_any (is_same name) names ≡ false
    by true h = absurd (true≢false h)
    by false h = h

-- two names of a list of distinct names are the same where their numbers are
pub number_same : (names : List (List ℕ)) → are_distinct names ≡ true → (e : ℕ) (n : List ℕ)
    → slice_get names e ≡ Some n → (w : List ℕ) (k : ℕ) → number_in names w ≡ Some k
    → (k == e) ≡ is_same n w
number_same [] distinct e n at w k is = absurd (true≢false (sym (ap is_some is)))
number_same (m ∷ names) distinct zero n at w k is =
    sym (sym (ap (λ x. is_same x w) (some_is m n at)) ∙ nat_list_eq_equiv.symm m w
    ∙ by (is_same w m) (number_in names w) is)
  where
    by : (b : Bool) (o : Option ℕ) → cond b (Some 0) (option_map suc o) ≡ Some k → b ≡ (k == 0)
    by true o h = ap (λ x. x == 0) (some_is 0 k h)
    by false None h = absurd (true≢false (sym (ap is_some h)))
    by false (Some j) h = sym (eqb-suc-zero j) ∙ ap (λ x. x == 0) (some_is (suc j) k h)
number_same (m ∷ names) distinct (suc e) n at w k is =
    by (is_same w m) refl (number_in names w) refl
    (number_same names (and_second (not (list_any (is_same m) names)) (are_distinct names) distinct)
    e n at w) is
  where
    fresh : is_same m n ≡ false
    fresh = other_name m names e n
        (not-true (list_any (is_same m) names)
        (and_first (not (list_any (is_same m) names)) (are_distinct names) distinct)) at

    by : (b : Bool) → is_same w m ≡ b → (o : Option ℕ) → number_in names w ≡ o
        → ((j : ℕ) → number_in names w ≡ Some j → (j == e) ≡ is_same n w)
        → cond b (Some 0) (option_map suc o) ≡ Some k → (k == suc e) ≡ is_same n w
    by true same o p rest h = sym (ap (λ x. x == suc e) (some_is 0 k h)) ∙ eqb-zero-suc e
        ∙ sym (nat_list_eq_equiv.symm n w ∙ nat_list_eq_equiv.congr w m n same ∙ fresh)
    by false other None p rest h = absurd (true≢false (sym (ap is_some h)))
    by false other (Some j) p rest h =
        sym (ap (λ x. x == suc e) (some_is (suc j) k h)) ∙ eqb-suc-suc j e ∙ rest j p

module _ (declared : List Word) (distinct : are_distinct (names_of declared) ≡ true) (e : ℕ)
    (n : List ℕ) (at : slice_get (names_of declared) e ≡ Some n) where
  here : (w : Word) → is_among (names_of declared) w.name ≡ true
      → (number declared w.name == e) ≡ is_same n w.name
  here w there = by (number_in (names_of declared) w.name) refl
    where
      by : (o : Option ℕ) → number_in (names_of declared) w.name ≡ o
          → (unwrap_or o 0 == e) ≡ is_same n w.name
      by None p = absurd
          (true≢false (sym there ∙ sym (among_number (names_of declared) w.name) ∙ ap is_some p))
      by (Some k) p = number_same (names_of declared) distinct e n at w.name k p

  -- declared words have the number where they have the name
  has_same_number : (words : List Word) → missing (is_name_of declared) words ≡ []
      → has_number (map (λ (w : Word). number declared w.name) words) e
      ≡ is_among (names_of words) n
  has_same_number [] none = refl
  has_same_number (w ∷ words) none =
      by (is_among (names_of declared) w.name) refl none (has_same_number words)
    where
      by : (b : Bool) → is_among (names_of declared) w.name ≡ b
          → unless b w.at ++ missing (is_name_of declared) words ≡ []
          → (missing (is_name_of declared) words ≡ []
          → has_number (map (λ (w : Word). number declared w.name) words) e
          ≡ is_among (names_of words) n)
          → (number declared w.name == e || has_number
          (map (λ (w : Word). number declared w.name) words) e)
          ≡ (is_same n w.name || is_among (names_of words) n)
      by true there rest more = λ i. here w there i || more rest i
      by false there rest more = absurd (some_place rest)
        where
          some_place : {p : ℕ} {ps : List ℕ} → p ∷ ps ≡ [] → ⊥
          some_place h = true≢false (ap is_first h)
            where
              is_first : List ℕ → Bool
              is_first [] = false
              is_first (p ∷ ps) = true

  -- the machines that have the number are those that have the name
  pub places_with : (list : RawMachine → List Word) (numbers : Machine → List ℕ) (k : ℕ)
      (raw : List RawMachine) (machines : List Machine)
      → AllZip (λ r m. (numbers m ≡ map (λ (w : Word). number declared w.name) (list r))
      × (missing (is_name_of declared) (list r) ≡ [])) raw machines
      → places_from k (λ m. has_number (numbers m) e) machines
      ≡ places_from k (λ r. is_among (names_of (list r)) n) raw
  places_with list numbers k [] [] all = refl
  places_with list numbers k [] (m ∷ machines) all = absurd all
  places_with list numbers k (r ∷ raw) [] all = absurd all
  places_with list numbers k (r ∷ raw) (m ∷ machines) all =
      let same : has_number (numbers m) e ≡ is_among (names_of (list r)) n =
      ap (λ l. has_number l e) all.0.0 ∙ has_same_number (list r) all.0.1 in
      let rest = places_with list numbers (k + 1) raw machines all.1 in
      λ i. cond (same i) (k ∷ rest i) (rest i)
