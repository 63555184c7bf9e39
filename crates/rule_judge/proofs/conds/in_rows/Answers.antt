use Rattle.std.proofs.Common.{flat_map}
use Rattle.net_reader.specs.declared.raw.RawRow.{RawRow}
use Rattle.rule_judge.specs.Rules.{unknown, unsuited, wrong_values}
use Rattle.rule_judge.proofs.LeastPlace.{found_more}
use Rattle.rule_judge.proofs.conds.in_rows.Goals as goal

pub loop-row-preserved : goal.loop-row-preserved
loop-row-preserved c = (
  found_more (λ (row : RawRow). flat_map (unknown c.args.names.now.machine.now) row.conds)
      c.args.rows.now c.loop-row.row-index c.row-item.result c.loop-row.found.unknown
      c.in_row-found.result.unknown _ c.loop-row-test.true c.row-item.is
      c.in_row-found.ensures.unknown c.loop-row.invariant.0,
  found_more (λ (row : RawRow). flat_map
      (unsuited c.args.names.now.scope.now.raw.now c.args.names.now.machine.now) row.conds)
      c.args.rows.now c.loop-row.row-index c.row-item.result c.loop-row.found.unsuited
      c.in_row-found.result.unsuited _ c.loop-row-test.true c.row-item.is
      c.in_row-found.ensures.unsuited c.loop-row.invariant.1,
  found_more (λ (row : RawRow). flat_map
      (wrong_values c.args.names.now.scope.now.raw.now c.args.names.now.machine.now) row.conds)
      c.args.rows.now c.loop-row.row-index c.row-item.result c.loop-row.found.valueless
      c.in_row-found.result.valueless _ c.loop-row-test.true c.row-item.is
      c.in_row-found.ensures.valueless c.loop-row.invariant.2,
)
