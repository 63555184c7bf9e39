-- What was found and what is left give what the whole gives.
use Rattle.std.proofs.Common.{◌≡◌, flat_map, drop}
use Rattle.net_reader.specs.declared.raw.RawRow.{RawRow}
use Rattle.net_names.specs.declared.machine_names.MachineNames.{MachineNames}
use Rattle.net_names.specs.Places.{sooner, least_place}
use Rattle.rule_judge.proofs.act_rules.in_machines.Given as goal

abbrev pub invariant-loop-names : goal.invariant-loop-names
invariant-loop-names g l =
    sooner l.found (least_place
    (flat_map (λ (n : MachineNames). flat_map
    (λ (row : RawRow). flat_map (g.C.ActRule.places n.scope.now.raw.now n.machine.now row) row.acts)
    n.machine.now.rows) (drop l.names-index l.machines)))
    ≡ sooner l.fn.found
    (least_place (flat_map
    (λ (n : MachineNames). flat_map
    (λ (row : RawRow). flat_map (g.C.ActRule.places n.scope.now.raw.now n.machine.now row) row.acts)
    n.machine.now.rows) l.fn.machines))
