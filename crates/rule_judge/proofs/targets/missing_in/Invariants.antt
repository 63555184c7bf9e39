-- What was found and what is left give what the whole gives.
use Rattle.std.proofs.Common.{◌≡◌, flat_map, drop}
use Rattle.net_names.specs.Places.{sooner, least_place}
use Rattle.net_names.specs.Numbers.{missing}
use Rattle.net_names.specs.Tables.{has}
use Rattle.rule_judge.proofs.targets.missing_in.Given as goal

abbrev pub invariant-loop-act : goal.invariant-loop-act
invariant-loop-act g l =
    sooner l.found
    (least_place (missing (has l.declared) (flat_map g.T.Target.words (drop l.act-index l.acts))))
    ≡ sooner l.fn.found (least_place (missing (has l.declared) (flat_map g.T.Target.words l.fn.acts)))
