use Rattle.std.proofs.Common.{◌∙◌, sym, subst}
use Rattle.order_sift.specs.inner.Points.{AreVariables}
use Rattle.order_sift.proofs.TableOutcomes.{numbers_long, variables_of}
use Rattle.order_sift.proofs.prepare.prepare.Goals as goal

pub outcome_numbers-requires-clause-snapshots : goal.outcome_numbers-requires-clause-snapshots
outcome_numbers-requires-clause-snapshots c =
    c.len-snapshots.ensures ∙ numbers_long c.args.m.now c.laws_below.ensures c.args.table.now
    c.requires.table

pub all_marks-requires-clause-variables : goal.all_marks-requires-clause-variables
all_marks-requires-clause-variables c =
    subst (AreVariables c.args.m.now) (sym c.in_ok-codes.ensures)
    (variables_of c.args.m.now c.laws_below.ensures c.args.table.now c.requires.table)

pub returns : goal.returns
returns c = record {
  snapshots = c.len-snapshots.ensures
      ∙ numbers_long c.args.m.now c.laws_below.ensures c.args.table.now c.requires.table;
  variables = subst (AreVariables c.args.m.now) (sym c.in_ok-codes.ensures)
      (variables_of c.args.m.now c.laws_below.ensures c.args.table.now c.requires.table);
  results = c.in_ok-results.ensures;
  wide = c.in_ok-marks.ensures.wide;
  marks = c.in_ok-marks.ensures.each;
}
