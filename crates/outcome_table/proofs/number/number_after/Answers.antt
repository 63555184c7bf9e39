use Rattle.std.proofs.Common.{◌≡◌, ◌∙◌, ◌-◌, ◌<◌, ◌≤◌, ◌++◌, ℕ, Bool, true, Option, List, length, take, drop, slice_get, slice_index, Some, arith, ap, sym, subst}
use Rattle.std.proofs.Math.Seq.{take-length}
use Rattle.std.proofs.lemmas.List.{length-take-le, take-append-drop}
use Rattle.std.proofs.lemmas.Option.{slice_get_within}
use Rattle.transition_table.specs.Orders.{codes_of}
use Rattle.transition_table.specs.Transitions.{outcome_of}
use Rattle.transition_table.specs.declared.machine.Machine.{Machine}
use Rattle.transition_table.specs.declared.row.Row.{Row}
use Rattle.outcome_table.specs.inner.Needs.{AreEnds, end_left, is_settled}
use Rattle.outcome_table.specs.inner.Numbering.{rows_left}
use Rattle.outcome_table.proofs.Rows.{few_rows}
use Rattle.outcome_table.proofs.Settled.{IsFirst, first_left, none_left, same_results}
use Rattle.outcome_table.proofs.number.number_after.Goals as goal
use Rattle.domains.proofs.Ranks.{length_fits}
use Rattle.transition_table.proofs.MachineCounts.{row_fits}

pub returns-in_default-clause-number : goal.returns-in_default-clause-number
returns-in_default-clause-number c =
    let m = c.args.narrowing.now.machine.now in
    let fixed = take c.args.at c.args.s.now.codes in
    let some = c.requires.begins.some in
    record {
      low = omega arith;
      gives = λ rest. c.requires.begins.blank
          ∙ ap codes_of (sym (none_left m fixed rest (sym c.requires.first ∙ c.in_default.is)));
    }

-- the first of the rows that are left
record Head (m : Machine) (fixed ends : List ℕ) (r : ℕ) : Type 0 where
  first : IsFirst m fixed m.rows 0 r
  at : slice_get m.rows r ≡ Some first.row
  inside : r < length m.rows
  most : slice_index ends r ≤ length fixed
  settled : is_settled m.inputs (slice_index ends r) first.row ≡ true

head : (m : Machine) (s ends : List ℕ) (at r : ℕ) (first : Option ℕ) → length s ≡ length m.vars
    → at ≤ length m.vars → first ≡ slice_get (rows_left m (take at s)) 0 → AreEnds m ends
    → end_left ends first ≤ at → first ≡ Some r → Head m (take at s) ends r
head m s ends at r first long low is are end some =
    let first = first_left m (take at s) r (sym is ∙ some) in
    let e : r - 0 ≡ r = omega arith in
    let there : slice_get m.rows r ≡ Some first.row =
    subst (λ k. slice_get m.rows k ≡ Some first.row) e first.at in
    let fixed : length (take at s) ≡ at = length-take-le at s (omega arith) in
    let is_end : end_left ends (Some r) ≤ at = rw some at end in
    record {
      first = first;
      at = there;
      inside = slice_get_within m.rows r first.row there;
      most = omega arith;
      settled = (are.each r first.row there).1;
    }

pub get-requires : goal.get-requires
get-requires c =
    let m = c.args.narrowing.now.machine.now in
    let h = head m c.args.s.now.codes c.args.narrowing.now.ends.now c.args.at c.from-r.result
    c.args.first
    (length_fits m.vars c.args.s.now.codes c.requires.snapshot) c.requires.at c.requires.first
    c.args.narrowing.now.are_ends c.requires.end (c.in-Some.is ∙ ap (λ (k : ℕ). Some k) (sym
    c.from-r.ensures)) in
    let inside = h.inside in
    let long = c.requires.begins.long in
    omega arith

pub overflow_add-result : goal.overflow_add-result
overflow_add-result c =
    let inside = slice_get_within c.args.narrowing.now.fixed.now (c.from-r.result)
    c.get.result.now c.get.ensures in
    let long = c.requires.begins.long in
    let few = few_rows c.args.narrowing.now.machine.now in
    omega arith

pub returns-then-get : goal.returns-then-get
returns-then-get c =
    let m = c.args.narrowing.now.machine.now in
    let fixed = take c.args.at c.args.s.now.codes in
    let r : ℕ = c.from-r.result in
    let h = head m c.args.s.now.codes c.args.narrowing.now.ends.now c.args.at c.from-r.result
    c.args.first
    (length_fits m.vars c.args.s.now.codes c.requires.snapshot) c.requires.at c.requires.first
    c.args.narrowing.now.are_ends c.requires.end (c.in-Some.is ∙ ap (λ (k : ℕ). Some k) (sym
    c.from-r.ensures)) in
    let inside = h.inside in
    let some = c.requires.begins.some in
    let on : slice_get c.args.narrowing.now.fixed.now r ≡ Some true =
    c.get.ensures ∙ ap (λ (b : Bool). Some b) c.if-get.true in
    record {
      kept = take-length c.args.outcomes.now;
      number = record {
        low = omega arith;
        gives = λ rest. c.requires.begins.rows r h.first.row h.at on (fixed ++ rest)
            ∙ ap codes_of (sym (h.first.gives (slice_index c.args.narrowing.now.ends.now r) h.most
            h.settled rest));
      };
    }

pub get-row-requires : goal.get-row-requires
get-row-requires c =
    let inside = slice_get_within c.args.narrowing.now.fixed.now (c.from-r.result)
    c.get.result.now c.get.ensures in
    let long = c.requires.begins.long in
    omega arith

pub add-requires-clause-row : goal.add-requires-clause-row
add-requires-clause-row c =
    row_fits c.args.narrowing.now.machine.now (c.from-r.result) c.get-row.result.now
    c.get-row.ensures

pub returns : goal.returns
returns c =
    let m = c.args.narrowing.now.machine.now in
    let s = c.args.s.now.codes in
    let fixed = take c.args.at s in
    let r : ℕ = c.from-r.result in
    let h = head m s c.args.narrowing.now.ends.now c.args.at c.from-r.result c.args.first
    (length_fits m.vars s c.requires.snapshot) c.requires.at c.requires.first
    c.args.narrowing.now.are_ends c.requires.end (c.in-Some.is ∙ ap (λ (k : ℕ). Some k) (sym
    c.from-r.ensures)) in
    let there = h.at in
    let same : c.get-row.result.now ≡ h.first.row = let a = there in let b = c.get-row.ensures in
    cc in
    record {
      kept = c.in_ok-number.ensures.kept;
      number = record {
        low = c.in_ok-number.ensures.low;
        gives = λ rest.
            c.in_ok-number.ensures.is
            ∙ ap (λ (row : Row). codes_of (outcome_of m s true row.acts)) same
            ∙ ap (λ (codes : List ℕ). codes_of (outcome_of m codes true h.first.row.acts))
            (sym (take-append-drop c.args.at s))
            ∙ same_results m fixed (drop c.args.at s) rest
            (slice_index c.args.narrowing.now.ends.now r) h.first.row h.most h.settled
            ∙ ap codes_of (sym (h.first.gives (slice_index c.args.narrowing.now.ends.now r) h.most
            h.settled rest));
      };
    }
