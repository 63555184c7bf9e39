use Rattle.std.proofs.Common.{flat_map}
use Rattle.net_reader.specs.declared.raw.RawRow.{RawRow}
use Rattle.net_names.specs.declared.machine_names.MachineNames.{MachineNames}
use Rattle.rule_judge.specs.Rules.{unknown, unsuited, wrong_values}
use Rattle.rule_judge.proofs.LeastPlace.{found_more}
use Rattle.rule_judge.proofs.conds.in_machines.Goals as goal

pub loop-names-preserved : goal.loop-names-preserved
loop-names-preserved c = (
  found_more (λ (n : MachineNames). flat_map (λ (row : RawRow). flat_map (unknown n.machine.now) row.conds)
      n.machine.now.rows) c.args.machines.now c.loop-names.names-index c.names-item.result
      c.loop-names.found.unknown c.in_ok-found.found.unknown _ c.loop-names-test.true
      c.names-item.is c.in_ok-found.ensures.unknown c.loop-names.invariant.0,
  found_more (λ (n : MachineNames). flat_map
      (λ (row : RawRow). flat_map (unsuited n.scope.now.raw.now n.machine.now) row.conds)
      n.machine.now.rows) c.args.machines.now c.loop-names.names-index c.names-item.result
      c.loop-names.found.unsuited c.in_ok-found.found.unsuited _ c.loop-names-test.true
      c.names-item.is c.in_ok-found.ensures.unsuited c.loop-names.invariant.1,
  found_more (λ (n : MachineNames). flat_map
      (λ (row : RawRow). flat_map (wrong_values n.scope.now.raw.now n.machine.now) row.conds)
      n.machine.now.rows) c.args.machines.now c.loop-names.names-index c.names-item.result
      c.loop-names.found.valueless c.in_ok-found.found.valueless _ c.loop-names-test.true
      c.names-item.is c.in_ok-found.ensures.valueless c.loop-names.invariant.2,
)
