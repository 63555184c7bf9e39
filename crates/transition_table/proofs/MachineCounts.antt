-- How many parts a machine has, and what lists of numbers have.
use Rattle.std.proofs.Common.{List, Some, [], drop, false, inl, inr, length, length-append, map, nat_le, refl, slice_get, suc, take, true, zero, ℕ, ◌&&◌, ◌++◌, ◌+◌, ◌==◌, ◌∙◌, ◌∷◌, ◌≡◌, ◌≤◌}
use Rattle.std.proofs.lemmas.Bool.{and_parts, eq-eqb, eqb-true, leb-true, or_cases, or_left, or_right}
use Rattle.std.specs.Cmp.Lexicographic.{pointwise}
use Rattle.std.specs.List.{list_all}
use Rattle.domains.specs.Tables.{product}
use Rattle.polis_base.proofs.Bools.{and_second}
use Rattle.transition_table.proofs.Ranges.{row_there}
use Rattle.transition_table.specs.MachineFacts.{is_row}
use Rattle.transition_table.specs.NetworkFacts.{has}
use Rattle.transition_table.specs.Orders.{Allowed}
use Rattle.transition_table.specs.declared.machine.Machine.{Machine}
use Rattle.transition_table.specs.declared.row.Row.{Row}

pub few_snapshots : (m : Machine) → product m.vars ≤ 65536
few_snapshots m =
    leb-true (product m.vars) 65536 (and_second _ (nat_le (product m.vars) 65536) m.small)

pub has_before : (plan : List ℕ) (m k : ℕ) → has plan k ≡ true → has (plan ++ m ∷ []) k ≡ true
has_before [] m k h = cc
has_before (first ∷ plan) m k h =
    elim (or_cases (first == k) (has plan k) h) [
      | inl e ↦ or_left (first == k) (has (plan ++ m ∷ []) k) e
      | inr e ↦ or_right (first == k) (has (plan ++ m ∷ []) k) (has_before plan m k e)
    ]

pub has_last : (plan : List ℕ) (m : ℕ) → has (plan ++ m ∷ []) m ≡ true
has_last [] m = or_left (m == m) false (eq-eqb m m refl)
has_last (first ∷ plan) m = or_right (first == m) (has (plan ++ m ∷ []) m) (has_last plan m)

pub row_fits : (m : Machine) (k : ℕ) (row : Row) → slice_get m.rows k ≡ Some row
    → is_row m.inputs m.vars m.results row ≡ true
row_fits m k row at = row_there m.inputs m.vars m.results m.rows k row m.fitting_rows at

pub has_at : (machines : List ℕ) (i m : ℕ) → slice_get machines i ≡ Some m → has machines m ≡ true
has_at [] i m at = cc
has_at (k ∷ machines) zero m at = let same : k ≡ m = cc in
    or_left (k == m) (has machines m) (eq-eqb k m same)
has_at (k ∷ machines) (suc i) m at = or_right (k == m) (has machines m) (has_at machines i m at)

pub order_length : (m : Machine) (order : List ℕ) → Allowed m order
    → length order ≡ length m.vars + length m.results
order_length m order allowed = allowed.long ∙ length-append m.vars m.results

pub results_long : (m : Machine) → length m.results ≡ 1 + length m.states + length m.outputs
results_long m =
    let a = length m.results == 1 + length m.states + length m.outputs in
    let b = pointwise ◌==◌ (2 ∷ map (λ size. 1 + size) (drop (length m.inputs) m.vars))
    (take (1 + length m.states) m.results) in
    let c = list_all (nat_le 2) (drop (1 + length m.states) m.results) in
    eqb-true (length m.results) (1 + length m.states + length m.outputs)
    (and_parts a b (and_parts (a && b) c m.sized_results).0).0
