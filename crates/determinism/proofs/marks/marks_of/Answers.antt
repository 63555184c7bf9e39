use Rattle.std.proofs.Common.{◌<◌, ◌∙◌, ℕ, subst}
use Rattle.std.proofs.lemmas.Option.{get_or_from_slice_get}
use Rattle.transition_table.specs.RowCodes.{AreCodesOf}
use Rattle.determinism.proofs.marks.marks_of.Goals as goal

pub get-requires : goal.get-requires
get-requires c = subst (λ n. c.loop-var.var < n) c.len-var-end.ensures c.loop-var-test.true

pub with_codes-marks-requires-clause-var : goal.with_codes-marks-requires-clause-var
with_codes-marks-requires-clause-var c =
    subst (λ n. c.loop-var.var < n) (c.len-var-end.ensures ∙ c.requires.long) c.loop-var-test.true

pub with_codes-marks-requires-clause-few : goal.with_codes-marks-requires-clause-few
with_codes-marks-requires-clause-few c = c.if-var-lt32.true

pub with_codes-marks-requires-clause-codes : goal.with_codes-marks-requires-clause-codes
with_codes-marks-requires-clause-codes c =
    let var = c.loop-var.var in
    let below = subst (λ n. var < n) (c.len-var-end.ensures ∙ c.requires.long) c.loop-var-test.true
    in
    subst (λ (set : ℕ). AreCodesOf c.args.machine.now.vars c.args.row.now var set)
    (get_or_from_slice_get c.args.sets.now var c.get.result.now 0 c.get.ensures)
    (c.requires.each var below)

pub with_codes-marks-requires-clause-marks : goal.with_codes-marks-requires-clause-marks
with_codes-marks-requires-clause-marks c = c.loop-var.invariant

pub returns : goal.returns
returns c = c.loop-var.invariant
