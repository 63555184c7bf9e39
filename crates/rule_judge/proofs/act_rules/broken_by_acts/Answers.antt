use Rattle.std.proofs.Common.{◌∙◌, flat_map, None, ap}
use Rattle.net_reader.specs.declared.raw.RawRow.{RawRow}
use Rattle.net_names.specs.Places.{sooner, least_place}
use Rattle.net_names.specs.declared.machine_names.MachineNames.{MachineNames}
use Rattle.rule_judge.proofs.AreMachineNames.{of_names}
use Rattle.rule_judge.proofs.act_rules.broken_by_acts.Goals as goal

pub returns : goal.returns
returns g c = c.in_machines.ensures
    ∙ (λ i. sooner None
    (least_place (flat_map
    (λ (n : MachineNames). flat_map
    (λ (row : RawRow). flat_map (g.C.ActRule.places n.scope.now.raw.now n.machine.now row) row.acts)
    n.machine.now.rows) (c.as_slice.ensures i))))
    ∙ ap least_place (of_names
    (λ net m. flat_map (λ (row : RawRow). flat_map (g.C.ActRule.places net m row) row.acts) m.rows)
    c.args.raw.now c.args.raw.now.machines c.args.machines.now c.requires)
