use Rattle.std.proofs.Common.{◌∙◌, ap}
use Rattle.net_names.specs.Places.{sooner, least_place}
use Rattle.net_names.specs.Numbers.{missing}
use Rattle.net_names.specs.Tables.{has}
use Rattle.rule_judge.proofs.LeastPlace.{sooner_missing}
use Rattle.rule_judge.proofs.rules.PortsCheckRawMachine.check.Goals as goal

pub returns : goal.returns
returns c =
    let declared = has c.args.self.now.events in
    c.missing.ensures
    ∙ ap (λ f. sooner f (least_place (missing declared c.args.machine.now.outputs)))
    c.missing-found.ensures
    ∙ sooner_missing declared c.args.found c.args.machine.now.inputs c.args.machine.now.outputs
