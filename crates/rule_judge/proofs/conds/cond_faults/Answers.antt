use Rattle.std.proofs.Common.{◌≡◌, ◌∙◌, flat_map, None, ap}
use Rattle.net_reader.specs.declared.raw.RawRow.{RawRow}
use Rattle.net_names.specs.declared.machine_names.MachineNames.{MachineNames}
use Rattle.net_names.specs.Places.{sooner, least_place}
use Rattle.rule_judge.specs.Rules.{unknown, unsuited, wrong_values}
use Rattle.rule_judge.proofs.AreMachineNames.{of_names}
use Rattle.net_names.proofs.IfOk.{IfOk_moved}
use Rattle.rule_judge.proofs.conds.cond_faults.Goals as goal

pub returns-clause-unknown : goal.returns-clause-unknown
returns-clause-unknown c =
    IfOk_moved c.in_machines.result (λ places found. found.unknown ≡ places) _ _
    ((λ i. sooner None
    (least_place (flat_map
    (λ (n : MachineNames). flat_map (λ (row : RawRow). flat_map (unknown n.machine.now) row.conds)
    n.machine.now.rows) (c.as_slice.ensures i))))
    ∙ ap least_place (of_names
    (λ net m. flat_map (λ (row : RawRow). flat_map (unknown m) row.conds) m.rows) c.args.raw.now
    c.args.raw.now.machines c.args.machines.now c.requires))
    c.in_machines.ensures.unknown

pub returns-clause-unsuited : goal.returns-clause-unsuited
returns-clause-unsuited c =
    IfOk_moved c.in_machines.result (λ places found. found.unsuited ≡ places) _ _
    ((λ i. sooner None
    (least_place (flat_map
    (λ (n : MachineNames). flat_map
    (λ (row : RawRow). flat_map (unsuited n.scope.now.raw.now n.machine.now) row.conds)
    n.machine.now.rows) (c.as_slice.ensures i))))
    ∙ ap least_place (of_names
    (λ net m. flat_map (λ (row : RawRow). flat_map (unsuited net m) row.conds) m.rows)
    c.args.raw.now c.args.raw.now.machines c.args.machines.now c.requires))
    c.in_machines.ensures.unsuited

pub returns-clause-valueless : goal.returns-clause-valueless
returns-clause-valueless c =
    IfOk_moved c.in_machines.result (λ places found. found.valueless ≡ places) _ _
    ((λ i. sooner None
    (least_place (flat_map
    (λ (n : MachineNames). flat_map
    (λ (row : RawRow). flat_map (wrong_values n.scope.now.raw.now n.machine.now) row.conds)
    n.machine.now.rows) (c.as_slice.ensures i))))
    ∙ ap least_place (of_names
    (λ net m. flat_map (λ (row : RawRow). flat_map (wrong_values net m) row.conds) m.rows)
    c.args.raw.now c.args.raw.now.machines c.args.machines.now c.requires))
    c.in_machines.ensures.valueless
