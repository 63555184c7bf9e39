use Rattle.std.proofs.Common.{◌≡◌, ◌∙◌, ◌≤◌, ◌∷◌, [], ⊎_elim, true, ℕ, List, length, slice_get, slice_index, Some, arith, ap, sym, subst}
use Rattle.std.proofs.lemmas.Bool.{cases_lt}
use Rattle.std.proofs.lemmas.List.{length_push, get_or_append_left, get_or_push}
use Rattle.std.proofs.lemmas.Option.{slice_get_within}
use Rattle.transition_table.specs.declared.row.Row.{Row}
use Rattle.outcome_table.specs.inner.Needs.{is_settled}
use Rattle.outcome_table.proofs.need.ends_of.Goals as goal
use Rattle.transition_table.proofs.MachineCounts.{row_fits}

pub end_of-requires : goal.end_of-requires
end_of-requires c = row_fits c.args.machine.now c.loop-r.r c.get.result.now c.get.ensures

pub loop-r-preserved : goal.loop-r-preserved
loop-r-preserved c =
    let m = c.args.machine.now in
    let old : List ℕ = c.loop-r.ends in
    let made : ℕ = c.end_of.result in
    let ok = c.in_ok-push.ensures.ok in
    let long = c.loop-r.invariant.long in
    record {
      long = ap (λ (xs : List ℕ). length xs) ok ∙ length_push old made
          ∙ (let e = long in omega arith);
      each = λ k row low at.
          ⊎_elim
          (λ less. subst (λ end. (end ≤ length m.vars) × (is_settled m.inputs end row ≡ true))
          (sym (ap (λ (xs : List ℕ). slice_index xs k) ok
          ∙ get_or_append_left old (made ∷ []) 0 k (omega arith)))
          (c.loop-r.invariant.each k row less at))
          (λ more.
          let here : k ≡ c.loop-r.r = omega arith in
          let same : c.get.result.now ≡ row = let a : slice_get m.rows c.loop-r.r ≡ Some row =
          subst (λ i. slice_get m.rows i ≡ Some row) here at in let b = c.get.ensures in cc in
          subst (λ end. (end ≤ length m.vars) × (is_settled m.inputs end row ≡ true))
          (sym (ap (λ (xs : List ℕ). slice_index xs k) ok
          ∙ get_or_push old made 0 k (long ∙ sym here)))
          (subst (λ (x : Row). (made ≤ length m.vars) × (is_settled m.inputs made x ≡ true)) same
          (c.end_of.ensures.within, c.end_of.ensures.settled)))
          (cases_lt k c.loop-r.r);
    }

pub returns : goal.returns
returns c =
    let done : c.loop-r.r ≡ length c.args.machine.now.rows = let a = c.loop-r-test.false in
    let b = c.loop-r.auto.r-end in let e = c.len-r-end.ensures in omega arith in
    let long = c.loop-r.invariant.long in
    record {
      long = long ∙ done;
      each = λ r row at. let inside = slice_get_within c.args.machine.now.rows r row at in
          c.loop-r.invariant.each r row (omega arith) at;
    }
