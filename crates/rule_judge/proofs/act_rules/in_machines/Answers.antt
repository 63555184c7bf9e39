use Rattle.std.proofs.Common.{flat_map}
use Rattle.net_reader.specs.declared.raw.RawRow.{RawRow}
use Rattle.net_names.specs.declared.machine_names.MachineNames.{MachineNames}
use Rattle.rule_judge.proofs.LeastPlace.{found_more}
use Rattle.rule_judge.proofs.act_rules.in_machines.Goals as goal

pub loop-names-preserved : goal.loop-names-preserved
loop-names-preserved g c =
    found_more (λ (n : MachineNames). flat_map
    (λ (row : RawRow). flat_map (g.C.ActRule.places n.scope.now.raw.now n.machine.now row) row.acts)
    n.machine.now.rows) c.args.machines.now c.loop-names.names-index c.names-item.result
    c.loop-names.found c.in_machine-found.result _ c.loop-names-test.true c.names-item.is
    c.in_machine-found.ensures c.loop-names.invariant
