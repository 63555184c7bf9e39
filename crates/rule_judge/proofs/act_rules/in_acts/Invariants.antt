-- What was found and what is left give what the whole gives.
use Rattle.std.proofs.Common.{◌≡◌, flat_map, drop}
use Rattle.net_names.specs.Places.{sooner, least_place}
use Rattle.rule_judge.proofs.act_rules.in_acts.Given as goal

abbrev pub invariant-loop-act : goal.invariant-loop-act
invariant-loop-act g l =
    sooner l.found (least_place
    (flat_map (g.C.ActRule.places l.names.scope.now.raw.now l.names.machine.now l.row)
    (drop l.act-index l.acts))) ≡ sooner l.fn.found
    (least_place (flat_map (g.C.ActRule.places l.names.scope.now.raw.now l.names.machine.now l.row)
    l.fn.acts))
