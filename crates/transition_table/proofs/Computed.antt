-- The outcome that is computed is the transition's.
use Rattle.std.proofs.Common.{◌≡◌, ◌⊎◌, ℕ, zero, suc, ◌+◌, ◌<◌, Bool, true, false, cond, List, [], ◌∷◌, ◌++◌, map, take, drop, length, slice_get, arith, refl, ap, ◌∙◌, inl, inr}
use Rattle.std.specs.List.{list_all}
use Rattle.std.specs.Cmp.Derive.{both_true}
use Rattle.std.proofs.lemmas.Bool.{cases_Bool, lt-ltb}
use Rattle.domains.specs.Tables.{fits}
use Rattle.transition_table.specs.declared.machine.Machine.{Machine}
use Rattle.transition_table.specs.declared.row.Row.{Row}
use Rattle.transition_table.specs.declared.snapshot.Outcome.{Outcome}
use Rattle.transition_table.specs.Computed.{outcome_by}
use Rattle.transition_table.specs.Laws.{OutcomeByRows, OnlyByRows, ResultsFit}
use Rattle.transition_table.specs.Transitions.{reading, allows, holds, outcome_of, actions, blank}
use Rattle.transition_table.proofs.Determinism.{one_outcome, codes_fit}
use Rattle.transition_table.proofs.Ranges.{results_parts}

-- some row of these is enabled and gives the outcome, or none is and the outcome is blank
abbrev ByRows : Machine → List ℕ → List Row → Outcome → Type 0
ByRows m s rows o =
    ((r : ℕ) × (holds s (slice_get rows r) ≡ true)
    × (o ≡ outcome_of m s true (actions (slice_get rows r))))
    ⊎ (((r : ℕ) → holds s (slice_get rows r) ≡ false) × (o ≡ blank m))

one_more : (m : Machine) (s : List ℕ) (row : Row) (rows : List Row) (o : Outcome)
    → list_all (allows s) row.conds ≡ false → ByRows m s rows o → ByRows m s (row ∷ rows) o
one_more m s row rows o off (inl (r, on, is)) = inl (suc r, on, is)
one_more m s row rows o off (inr (none, is)) = inr (every, is)
  where
    every : (r : ℕ) → holds s (slice_get (row ∷ rows) r) ≡ false
    every zero = off
    every (suc r) = none r

by_rows : (m : Machine) (s : List ℕ) (rows : List Row) → ByRows m s rows (outcome_by m rows s)
by_rows m s [] = inr (λ r. refl, refl)
by_rows m s (row ∷ rows) =
    elim (cases_Bool (list_all (allows s) row.conds)) [
      | inl on ↦ inl (
        0,
        on,
        ap (λ (b : Bool). cond b (outcome_of m s true row.acts) (outcome_by m rows s)) on,
      )
      | inr off ↦
          let e : outcome_by m (row ∷ rows) s ≡ outcome_by m rows s =
          ap (λ (b : Bool). cond b (outcome_of m s true row.acts) (outcome_by m rows s)) off in
          rw e (one_more m s row rows (outcome_by m rows s) off (by_rows m s rows))
    ]

pub outcome_by_rows : OutcomeByRows
outcome_by_rows m s = by_rows m s m.rows

pub only_by_rows : OnlyByRows
only_by_rows m s o sure fit move =
    one_outcome m (reading s) o (outcome_by m m.rows s) sure fit move (outcome_by_rows m s)

-- the code of `go`, and then codes that fit
go_and_more : (results : List ℕ) (more : List ℕ) (n : ℕ) (fires : Bool)
    → 2 ∷ more ≡ take (suc n) results → (codes : List ℕ) → fits (drop 1 results) codes ≡ true
    → fits results (cond fires 1 0 ∷ codes) ≡ true
go_and_more [] more n fires e codes fit =
    absurd (let l : suc (length more) ≡ 0 = ap length e in omega arith)
go_and_more (size ∷ results) more n fires e codes fit =
    let two : 2 ≡ size = ap (λ (xs : List ℕ). first xs) e in
    both_true (lt-ltb (cond fires 1 0) size (low fires two)) fit
  where
    first : List ℕ → ℕ
    first [] = 0
    first (x ∷ xs) = x

    low : (fires : Bool) → 2 ≡ size → cond fires 1 0 < size
    low true h = omega arith
    low false h = omega arith

pub results_fit : ResultsFit
results_fit m s fit =
    let o = outcome_by m m.rows s in
    let next : 1 + length m.states ≡ suc (length m.states) = omega arith in
    let first = (results_parts m).1 ∙ ap (λ (k : ℕ). take k m.results) next in
    go_and_more m.results (map (λ size. 1 + size) (drop (length m.inputs) m.vars)) (length m.states)
    o.fires first (o.next ++ o.outs) (codes_fit m (reading s) o fit (outcome_by_rows m s))
