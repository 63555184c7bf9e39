use Rattle.std.proofs.Common.{flat_map}
use Rattle.net_reader.specs.declared.raw.RawRow.{RawRow}
use Rattle.rule_judge.proofs.LeastPlace.{found_more}
use Rattle.rule_judge.proofs.act_rules.in_rows.Goals as goal

pub loop-row-preserved : goal.loop-row-preserved
loop-row-preserved g c =
    found_more (λ (row : RawRow). flat_map
    (g.C.ActRule.places c.args.names.now.scope.now.raw.now c.args.names.now.machine.now row)
    row.acts) c.args.rows.now c.loop-row.row-index c.row-item.result c.loop-row.found
    c.in_row-found.result _ c.loop-row-test.true c.row-item.is c.in_row-found.ensures
    c.loop-row.invariant
