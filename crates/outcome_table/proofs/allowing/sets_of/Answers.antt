use Rattle.std.proofs.Common.{◌∙◌, [], ℕ, List, get_or, length, arith, ap, sym, subst}
use Rattle.std.proofs.lemmas.List.{length_push}
use Rattle.std.proofs.lemmas.Option.{get_or_from_slice_get}
use Rattle.outcome_table.specs.inner.RowSets.{IsSetOf}
use Rattle.transition_table.proofs.CodeSets.{size_of_var}
use Rattle.outcome_table.proofs.RowSets.{pushed}
use Rattle.outcome_table.proofs.allowing.sets_of.Goals as goal

pub rows_with-requires-clause-code : goal.rows_with-requires-clause-code
rows_with-requires-clause-code c =
    let size = size_of_var c.args.machine.now c.args.var c.get-code-end.result.now
    (rw c.from.ensures at c.get-code-end.ensures) c.requires.var in
    let low = c.loop-code-test.true in
    omega arith

pub loop-code-preserved : goal.loop-code-preserved
loop-code-preserved c =
    let m = c.args.machine.now in
    let var = c.args.var in
    let old : List (List ℕ) = c.loop-code.sets in
    let made : List ℕ = c.rows_with.result in
    let code : ℕ = c.loop-code.code in
    let ok = c.in_ok-push.ensures.ok in
    let long = c.loop-code.invariant.long in
    let own : IsSetOf m var code made = c.rows_with.ensures in
    record {
      long = ap (λ (xs : List (List ℕ)). length xs) ok ∙ length_push old made
          ∙ (let e = long in omega arith);
      each = λ k low.
          subst (λ (xs : List (List ℕ)). IsSetOf m var k (get_or xs k [])) (sym ok)
          (pushed (IsSetOf m var) old made code long c.loop-code.invariant.each own k low);
    }

pub returns : goal.returns
returns c =
    let size = get_or_from_slice_get c.args.machine.now.vars c.args.var c.get-code-end.result.now 0
    (rw c.from.ensures at c.get-code-end.ensures) in
    let long = c.loop-code.invariant.long in
    let done = c.loop-code-test.false in
    let end = c.loop-code.auto.code-end in
    record {
      long = omega arith;
      each = λ k low. c.loop-code.invariant.each k (omega arith);
    }
