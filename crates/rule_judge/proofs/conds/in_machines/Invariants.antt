-- What was found and what is left give what the whole gives.
use Rattle.std.proofs.Common.{◌≡◌, flat_map, drop}
use Rattle.net_reader.specs.declared.raw.RawRow.{RawRow}
use Rattle.net_names.specs.declared.machine_names.MachineNames.{MachineNames}
use Rattle.net_names.specs.Places.{sooner, least_place}
use Rattle.rule_judge.specs.Rules.{unknown, unsuited, wrong_values}
use Rattle.rule_judge.proofs.conds.in_machines.Given as goal

abbrev pub invariant-loop-names : goal.invariant-loop-names
invariant-loop-names l =
    (sooner l.found.unknown
    (least_place (flat_map
    (λ (n : MachineNames). flat_map (λ (row : RawRow). flat_map (unknown n.machine.now) row.conds)
    n.machine.now.rows) (drop l.names-index l.machines)))
    ≡ sooner l.fn.found.unknown
    (least_place (flat_map
    (λ (n : MachineNames). flat_map (λ (row : RawRow). flat_map (unknown n.machine.now) row.conds)
    n.machine.now.rows) l.fn.machines)))
    × (sooner l.found.unsuited
    (least_place (flat_map
    (λ (n : MachineNames). flat_map
    (λ (row : RawRow). flat_map (unsuited n.scope.now.raw.now n.machine.now) row.conds)
    n.machine.now.rows) (drop l.names-index l.machines)))
    ≡ sooner l.fn.found.unsuited
    (least_place (flat_map
    (λ (n : MachineNames). flat_map
    (λ (row : RawRow). flat_map (unsuited n.scope.now.raw.now n.machine.now) row.conds)
    n.machine.now.rows) l.fn.machines)))
    × (sooner l.found.valueless
    (least_place (flat_map
    (λ (n : MachineNames). flat_map
    (λ (row : RawRow). flat_map (wrong_values n.scope.now.raw.now n.machine.now) row.conds)
    n.machine.now.rows) (drop l.names-index l.machines)))
    ≡ sooner l.fn.found.valueless
    (least_place (flat_map
    (λ (n : MachineNames). flat_map
    (λ (row : RawRow). flat_map (wrong_values n.scope.now.raw.now n.machine.now) row.conds)
    n.machine.now.rows) l.fn.machines)))
