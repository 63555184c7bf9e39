use Rattle.std.proofs.Common.{◌++◌, flat_map, ap}
use Rattle.net_reader.specs.declared.raw.RawRow.{RawRow}
use Rattle.net_names.specs.Places.{least_place}
use Rattle.net_names.specs.Scopes.{state_words}
use Rattle.rule_judge.specs.Rules.{emitted, set_names, not_once}
use Rattle.net_names.proofs.IfOk.{IfOk_same}
use Rattle.rule_judge.proofs.AreMachineNames.{of_names}
use Rattle.rule_judge.proofs.targets.rule_18.Goals as goal

pub returns : goal.returns
returns c = IfOk_same c.check_all.result _ _
    (ap least_place (of_names
    (λ net m. flat_map (λ (row : RawRow). not_once m.outputs (flat_map emitted row.acts)
    ++ not_once (state_words m) (flat_map set_names row.acts)) m.rows) c.args.raw.now
    c.args.raw.now.machines c.args.machines.now c.requires)) c.check_all.ensures
