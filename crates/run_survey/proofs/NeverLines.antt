-- The lines of the rows that no run took, machine by machine.
use Rattle.std.proofs.Common.{◌≡◌, ℕ, ◌+◌, ◌≤◌, List, [], ◌∷◌, ◌++◌, map, flat_map, length, take, drop, get_or, slice_get, Some, sym, ap, ◌∙◌, append-nil, arith}
use Rattle.std.proofs.lemmas.List.{drop-drop, drop_all, get_or-drop, length-append, length-drop, map_push, take-append-drop, take_more}
use Rattle.std.proofs.lemmas.List.Concat.{flat_map-append}
use Rattle.std.proofs.lemmas.Option.{get_or_from_slice_get, slice_get_within}
use Rattle.transition_table.specs.declared.machine.Machine.{Machine}
use Rattle.transition_table.specs.declared.row.Row.{Row}
use Rattle.event_accounts.proofs.OneItemMore.{one_more}
use Rattle.journals.proofs.Emitted.{drop_at_item}
use Rattle.table_use.specs.CoverageLines.{never_line}
use Rattle.run_survey.specs.declared.told.Spread.{Spread}
use Rattle.run_survey.specs.SurveyLines.{most_taken, never_lines}
use Rattle.polis_base.proofs.Places.{flat_map_push, take_next}

abbrev pub rows_in : Machine → List Row
rows_in machine = machine.rows

-- one row more
pub most_more : (rows : List Spread) (first k : ℕ) (s : Spread)
    → slice_get rows (first + k) ≡ Some s
    → map most_taken (take (k + 1) (drop first rows))
    ≡ map most_taken (take k (drop first rows)) ++ most_taken s ∷ []
most_more rows first k s at =
    let inside = slice_get_within rows (first + k) s at in
    let size = length-drop first rows in
    let here : get_or (drop first rows) k s ≡ s =
    get_or-drop first rows k s ∙ get_or_from_slice_get rows (first + k) s s at in
    ap (map most_taken)
    (take_more (drop first rows) k s (omega arith)
    ∙ ap (λ (t : Spread). take k (drop first rows) ++ t ∷ []) here)
    ∙ map_push most_taken (take k (drop first rows)) s

-- the rows of the machines before the next one
pub rows_next : (machines : List Machine) (m : ℕ) (machine : Machine)
    → slice_get machines m ≡ Some machine
    → length (flat_map rows_in (take (m + 1) machines))
    ≡ length (flat_map rows_in (take m machines)) + length machine.rows
rows_next machines m machine at =
    ap (λ (l : List Machine). length (flat_map rows_in l)) (take_next machines m machine at)
    ∙ ap length (flat_map_push rows_in (take m machines) machine)
    ∙ length-append (flat_map rows_in (take m machines)) machine.rows

pub rows_within : (machines : List Machine) (m : ℕ)
    → length (flat_map rows_in (take m machines)) ≤ length (flat_map rows_in machines)
rows_within machines m =
    let whole : length (flat_map rows_in machines)
    ≡ length (flat_map rows_in (take m machines ++ drop m machines)) =
    ap (λ (l : List Machine). length (flat_map rows_in l)) (sym (take-append-drop m machines)) in
    let parts = ap length (flat_map-append rows_in (take m machines) (drop m machines)) in
    let both = length-append (flat_map rows_in (take m machines))
    (flat_map rows_in (drop m machines)) in
    omega arith

-- one machine more
pub never_more : (machines : List Machine) (rows : List Spread) (m first count : ℕ)
    (machine : Machine) (now new all : List ℕ) → slice_get machines m ≡ Some machine
    → count ≡ length machine.rows
    → new ≡ now ++ never_line machine (map most_taken (take count (drop first rows)))
    → now ++ never_lines (drop m machines) (drop first rows) ≡ all
    → new ++ never_lines (drop (m + 1) machines) (drop (first + count) rows) ≡ all
never_more machines rows m first count machine now new all at many made was =
    one_more now new (never_line machine (map most_taken (take count (drop first rows))))
    (never_lines (drop m machines) (drop first rows))
    (never_lines (drop (m + 1) machines) (drop (first + count) rows)) all made
    (ap (λ (l : List Machine). never_lines l (drop first rows)) (drop_at_item machines m machine at)
    ∙ ap (λ (n : ℕ). never_line machine (map most_taken (take n (drop first rows)))
    ++ never_lines (drop (m + 1) machines) (drop n (drop first rows))) (sym many)
    ∙ ap (λ (l : List Spread).
    never_line machine (map most_taken (take count (drop first rows)))
    ++ never_lines (drop (m + 1) machines) l) (drop-drop count first rows))
    was

pub never_all : (machines : List Machine) (rows : List Spread) (m : ℕ) (now all : List ℕ)
    → length machines ≤ m → now ++ never_lines (drop m machines) rows ≡ all → now ≡ all
never_all machines rows m now all past was =
    sym (append-nil now)
    ∙ ap (λ (l : List Machine). now ++ never_lines l rows) (sym (drop_all m machines past))
    ∙ was
