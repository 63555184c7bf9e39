-- Outcomes under the numbers of two tables, and which of them are equal.
use Rattle.std.proofs.Common.{◌≡◌, ⊎_elim, ℕ, ◌+◌, ◌<◌, nat_lt, List, [], length, get_or, slice_get, slice_index, slice_set, replicate, Some, sym, ap, ◌∙◌, arith}
use Rattle.std.proofs.lemmas.Bool.{cases_lt, ltb-true}
use Rattle.std.proofs.lemmas.List.{length-map, get_or-map, get_or-replicate, get_or-set_same, get_or-set_other}
use Rattle.std.proofs.lemmas.Option.{get_or_from_slice_get, slice_get_within}
use Rattle.domains.specs.AllCodes.{all_codes}
use Rattle.outcome_table.specs.Outcomes.{AreColumns, are_named, named}
use Rattle.machine_equiv.specs.inner.FirstOthers.{AreEqualOnes}
use Rattle.polis_base.proofs.ListTests.{all_get}

pub number_low : (outcomes : List (List ℕ)) (numbers : List ℕ) (i number : ℕ)
    → are_named outcomes numbers → slice_get numbers i ≡ Some number → number < length outcomes
number_low outcomes numbers i number within is =
    ltb-true number (length outcomes)
    (all_get (λ k. nat_lt k (length outcomes)) numbers i number within is)

pub long_named : (outcomes : List (List ℕ)) (numbers : List ℕ)
    → length (named outcomes numbers) ≡ length numbers
long_named outcomes numbers = length-map numbers (λ k. get_or outcomes k [])

pub named_under : (outcomes : List (List ℕ)) (numbers : List ℕ) (i number : ℕ)
    → slice_get numbers i ≡ Some number
    → get_or (named outcomes numbers) i [] ≡ get_or outcomes number []
named_under outcomes numbers i number is =
    get_or-map (λ k. get_or outcomes k []) numbers i 0 [] (slice_get_within numbers i number is)
    ∙ ap (λ k. get_or outcomes k []) (get_or_from_slice_get numbers i number 0 is)

pub named_at : (outcomes : List (List ℕ)) (numbers : List ℕ) (i number : ℕ) (outcome : List ℕ)
    → slice_get numbers i ≡ Some number → slice_get outcomes number ≡ Some outcome
    → get_or (named outcomes numbers) i [] ≡ outcome
named_at outcomes numbers i number outcome is there =
    named_under outcomes numbers i number is
    ∙ get_or_from_slice_get outcomes number outcome [] there

pub one_place_more : (xs ys : List (List ℕ)) (i : ℕ)
    → ((k : ℕ) → k < i → get_or xs k [] ≡ get_or ys k []) → get_or xs i [] ≡ get_or ys i []
    → (k : ℕ) → k < i + 1 → get_or xs k [] ≡ get_or ys k []
one_place_more xs ys i before here k low =
    ⊎_elim
    (λ less. before k less)
    (λ more.
    let at : k ≡ i = omega arith in
    ap (λ n. get_or xs n []) at ∙ here ∙ ap (λ n. get_or ys n []) (sym at))
    (cases_lt k i)

-- the code of a variable on the snapshot at a place
pub code_at : (vars : List ℕ) (columns : List (List ℕ)) (v i : ℕ) (found : List ℕ) (code : ℕ)
    → AreColumns vars columns → v < length vars → i < length (all_codes vars)
    → slice_get columns v ≡ Some found → slice_get found i ≡ Some code
    → code ≡ slice_index (get_or (all_codes vars) i []) v
code_at vars columns v i found code are v_low i_low found_is code_is =
    sym (get_or_from_slice_get found i code 0 code_is)
    ∙ ap (λ (xs : List ℕ). slice_index xs i)
    (sym (get_or_from_slice_get columns v found [] found_is) ∙ are.each v v_low)
    ∙ get_or-map (λ codes. slice_index codes v) (all_codes vars) i [] 0 i_low

-- ---- equal outcomes

-- at first none was met
pub no_ones : (xs ys : List (List ℕ)) → AreEqualOnes xs ys (replicate (length xs) (length ys))
no_ones xs ys k low found =
    let at = get_or-replicate (length xs) k (length ys) 0 low in absurd (omega arith)

-- one more was met
pub one_set : (xs ys : List (List ℕ)) (equal : List ℕ) (n m : ℕ) → length equal ≡ length xs
    → get_or xs n [] ≡ get_or ys m [] → AreEqualOnes xs ys equal
    → AreEqualOnes xs ys (slice_set equal n m)
one_set xs ys equal n m long same are k low found =
    ⊎_elim (λ less. elsewhere (omega arith))
    (λ more. ⊎_elim (λ less. elsewhere (omega arith)) (λ least. here (omega arith)) (cases_lt n k))
    (cases_lt k n)
  where
    elsewhere : (k ≡ n → ⊥) → get_or xs k [] ≡ get_or ys (slice_index (slice_set equal n m) k) []
    elsewhere other =
        let at = get_or-set_other equal n k m 0 other in
        are k low (omega arith) ∙ ap (λ j. get_or ys j []) (sym at)

    here : k ≡ n → get_or xs k [] ≡ get_or ys (slice_index (slice_set equal n m) k) []
    here at =
        let set = get_or-set_same equal n m 0 (omega arith) in
        ap (λ j. get_or xs j []) at
        ∙ same
        ∙ ap (λ j. get_or ys j []) (sym (ap (slice_index (slice_set equal n m)) at ∙ set))
