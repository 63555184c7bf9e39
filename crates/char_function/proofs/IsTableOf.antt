-- What stands in a machine's table.
use Rattle.std.proofs.Common.{◌≡◌, ℕ, ◌+◌, ◌-◌, ◌<◌, ◌≤◌, true, List, [], map, length, get_or, slice_index, ap, sym, ◌∙◌, arith, nat_lt}
use Rattle.std.specs.List.{list_all}
use Rattle.std.proofs.lemmas.Bool.{ltb-true}
use Rattle.domains.specs.AllCodes.{all_codes}
use Rattle.domains.specs.Tables.{fits}
use Rattle.transition_table.specs.Computed.{result_code, result_codes}
use Rattle.transition_table.specs.Laws.{ResultsFit}
use Rattle.transition_table.specs.Orders.{sizes_of}
use Rattle.transition_table.specs.declared.machine.Machine.{Machine}
use Rattle.outcome_table.specs.Outcomes.{IsTableOf}
use Rattle.outcome_table.specs.declared.table.Table.{Table}
use Rattle.char_function.specs.inner.Points.{at_point, point, points}
use Rattle.decision_diagram.proofs.AllCodes.{all_map, lists_fit}
use Rattle.decision_diagram.proofs.Fits.{fits_at}
use Rattle.char_function.proofs.ListItems.{at_map, index_second}
use Rattle.char_function.proofs.AreSupports.{all_weaken}
use Rattle.domains.proofs.Ranks.{length_fits}
use Rattle.domains.proofs.FittingCodes.{fits_both}
use Rattle.polis_base.proofs.ListTests.{all_get_or}
use Rattle.polis_base.proofs.Places.{index_append, length_map, map_of_map}

-- all points of a machine are codes of its variables and results
pub points_fit : ResultsFit → (m : Machine) → list_all (fits (sizes_of m)) (points m) ≡ true
points_fit law m =
    all_map (fits (sizes_of m)) (point m) (all_codes m.vars)
    ∙ all_weaken (fits m.vars) (λ s. fits (sizes_of m) (point m s)) (all_codes m.vars)
    (lists_fit m.vars)
    (λ s fit. fits_both m.vars m.results s (result_codes m s) fit (law m s fit))

module _ (m : Machine) (t : Table) (tabled : IsTableOf m t) where
  pub numbers_long : length t.numbers ≡ length (points m)
  numbers_long =
      let a = length_map (λ k. get_or t.outcomes k []) t.numbers in
      let b = length_map (result_codes m) (all_codes m.vars) in
      let c = length_map (point m) (all_codes m.vars) in
      let d = ap (λ (xs : List (List ℕ)). length xs) tabled.results in
      omega arith

  pub lists_long : length (points m) ≡ length (all_codes m.vars)
  lists_long = length_map (point m) (all_codes m.vars)

  -- the number of a snapshot's outcome is that of an outcome
  pub number_low : (i : ℕ) → i < length t.numbers → slice_index t.numbers i < length t.outcomes
  number_low i low =
      ltb-true (slice_index t.numbers i) (length t.outcomes)
      (all_get_or (λ k. nat_lt k (length t.outcomes)) t.numbers i 0 tabled.within low)

  -- which has the codes of the results on the snapshot
  pub outcome_at : (i : ℕ) → i < length t.numbers
      → get_or t.outcomes (slice_index t.numbers i) []
      ≡ result_codes m (get_or (all_codes m.vars) i [])
  outcome_at i low =
      let a = numbers_long in
      let b = lists_long in
      sym (at_map (λ k. get_or t.outcomes k []) t.numbers i 0 [] low)
      ∙ ap (λ (xs : List (List ℕ)). get_or xs i []) tabled.results
      ∙ at_map (result_codes m) (all_codes m.vars) i [] [] (omega arith)

  pub fits_list : (i : ℕ) → i < length (points m)
      → fits m.vars (get_or (all_codes m.vars) i []) ≡ true
  fits_list i low = let b = lists_long in
      all_get_or (fits m.vars) (all_codes m.vars) i [] (lists_fit m.vars) (omega arith)

  point_is : (i : ℕ) → i < length (points m)
      → at_point (points m) i ≡ point m (get_or (all_codes m.vars) i [])
  point_is i low = let b = lists_long in at_map (point m) (all_codes m.vars) i [] [] (omega arith)

  -- a snapshot's code of a variable stands in the variable's column
  pub var_at : (i v : ℕ) → i < length (points m) → v < length m.vars
      → slice_index (get_or t.codes v []) i ≡ slice_index (at_point (points m) i) v
  var_at i v low v_low =
      let b = lists_long in
      let long = length_fits m.vars (get_or (all_codes m.vars) i []) (fits_list i low) in
      ap (λ (xs : List ℕ). slice_index xs i) (tabled.codes.each v v_low)
      ∙ at_map (λ codes. slice_index codes v) (all_codes m.vars) i [] 0 (omega arith)
      ∙ sym (ap (λ (p : List ℕ). slice_index p v) (point_is i low)
      ∙ index_append (get_or (all_codes m.vars) i [])
      (result_codes m (get_or (all_codes m.vars) i [])) v (omega arith))

  pub column_long : (v : ℕ) → v < length m.vars → length (get_or t.codes v []) ≡ length (points m)
  column_long v low =
      let a = length_map (λ codes. slice_index codes v) (all_codes m.vars) in
      let b = lists_long in
      ap (λ (xs : List ℕ). length xs) (tabled.codes.each v low)
      ∙ (let e : length (map (λ codes. slice_index codes v) (all_codes m.vars))
      ≡ length (points m) = omega arith in e)

  module _ (law : ResultsFit) where
    pub outcome_long : (i : ℕ) → i < length t.numbers
        → length (get_or t.outcomes (slice_index t.numbers i) []) ≡ length m.results
    outcome_long i low =
        let a = numbers_long in
        ap (λ (xs : List ℕ). length xs) (outcome_at i low)
        ∙ length_fits m.results (result_codes m (get_or (all_codes m.vars) i []))
        (law m (get_or (all_codes m.vars) i []) (fits_list i (omega arith)))

    pub code_below : (i item : ℕ) → i < length (points m) → item < length (sizes_of m)
        → slice_index (at_point (points m) i) item < slice_index (sizes_of m) item
    code_below i item low item_low =
        fits_at (sizes_of m) (at_point (points m) i)
        (all_get_or (fits (sizes_of m)) (points m) i [] (points_fit law m) low) item item_low

  -- and its code of a result under the number of its outcome
  pub result_at : (i item : ℕ) → i < length (points m) → length m.vars ≤ item
      → slice_index (get_or t.outcomes (slice_index t.numbers i) []) (item - length m.vars)
      ≡ slice_index (at_point (points m) i) item
  result_at i item low high =
      let n = numbers_long in
      let s : List ℕ = get_or (all_codes m.vars) i [] in
      let long = length_fits m.vars s (fits_list i low) in
      let sum : length s + (item - length m.vars) ≡ item = omega arith in
      ap (λ (xs : List ℕ). slice_index xs (item - length m.vars)) (outcome_at i (omega arith))
      ∙ sym (index_second s (result_codes m s) (item - length m.vars))
      ∙ ap (slice_index (point m s)) sum
      ∙ ap (λ (p : List ℕ). slice_index p item) (sym (point_is i low))

  -- the codes of a result are those under the numbers
  pub result_column : (y : ℕ) → map (λ k. slice_index (get_or t.outcomes k []) y) t.numbers
      ≡ map (result_code m y) (all_codes m.vars)
  result_column y =
      sym (map_of_map (λ (codes : List ℕ). slice_index codes y) (λ k. get_or t.outcomes k [])
      t.numbers)
      ∙ ap (map (λ (codes : List ℕ). slice_index codes y)) tabled.results
      ∙ map_of_map (λ (codes : List ℕ). slice_index codes y) (result_codes m) (all_codes m.vars)
