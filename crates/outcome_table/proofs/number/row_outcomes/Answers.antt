use Rattle.std.proofs.Common.{◌≡◌, ◌∙◌, ◌+◌, ◌∷◌, [], ⊎_elim, ℕ, true, List, length, get_or, slice_get, Some, arith, ap, sym, subst}
use Rattle.std.proofs.lemmas.Bool.{cases_lt}
use Rattle.std.proofs.lemmas.List.{length_push, get_or_append_left, get_or_push}
use Rattle.std.proofs.lemmas.Option.{slice_get_within}
use Rattle.transition_table.specs.Orders.{codes_of}
use Rattle.transition_table.specs.Transitions.{outcome_of}
use Rattle.transition_table.specs.declared.row.Row.{Row}
use Rattle.outcome_table.proofs.number.row_outcomes.Goals as goal
use Rattle.transition_table.proofs.MachineCounts.{row_fits}

pub row_codes-requires-clause-row : goal.row_codes-requires-clause-row
row_codes-requires-clause-row c = row_fits c.args.m.now c.loop-r.r c.get.result.now c.get.ensures

pub loop-r-preserved : goal.loop-r-preserved
loop-r-preserved c =
    let m = c.args.m.now in
    let s = c.args.s.now.codes in
    let old : List (List ℕ) = c.loop-r.outcomes in
    let made : List ℕ = c.in_ok-row_codes.field-0 in
    let ok = c.in_ok-push-2.ensures.ok in
    let long = c.loop-r.invariant.long in
    let size = length_push old made in
    record {
      long = ap (λ (xs : List (List ℕ)). length xs) ok ∙ (omega arith);
      blank = ap (λ (xs : List (List ℕ)). get_or xs 0 []) ok
          ∙ get_or_append_left old (made ∷ []) [] 0 (omega arith) ∙ c.loop-r.invariant.blank;
      rows = λ r row low at.
          ap (λ (xs : List (List ℕ)). get_or xs (1 + r) []) ok
          ∙ ⊎_elim
          (λ less. get_or_append_left old (made ∷ []) [] (1 + r) (omega arith)
          ∙ c.loop-r.invariant.rows r row less at)
          (λ more.
          let here : r ≡ c.loop-r.r = omega arith in
          let same : row ≡ c.get.result.now = let a : slice_get m.rows c.loop-r.r ≡ Some row =
          subst (λ k. slice_get m.rows k ≡ Some row) here at in let b = c.get.ensures in cc in
          get_or_push old made [] (1 + r) (omega arith) ∙ c.in_ok-row_codes.ensures
          ∙ ap (λ (x : Row). codes_of (outcome_of m s true x.acts)) (sym same))
          (cases_lt r c.loop-r.r);
    }

pub returns : goal.returns
returns c =
    let done : c.loop-r.r ≡ length c.args.m.now.rows = let a = c.loop-r-test.false in
    let b = c.loop-r.auto.r-end in let e = c.len-r-end.ensures in omega arith in
    let long = c.loop-r.invariant.long in
    record {
      long = omega arith;
      blank = c.loop-r.invariant.blank;
      rows = λ r row at. let inside = slice_get_within c.args.m.now.rows r row at in
          c.loop-r.invariant.rows r row (omega arith) at;
    }
