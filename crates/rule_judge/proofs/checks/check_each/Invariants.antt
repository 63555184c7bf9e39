-- What was found and what is left give what the whole gives.
use Rattle.std.proofs.Common.{◌≡◌, flat_map, drop}
use Rattle.net_names.specs.Places.{sooner, least_place}
use Rattle.rule_judge.proofs.checks.check_each.Given as goal

abbrev pub invariant-loop-item : goal.invariant-loop-item
invariant-loop-item g l =
    sooner l.found (least_place (flat_map (g.C.Check.places l.check) (drop l.item-index l.items)))
    ≡ sooner l.fn.found (least_place (flat_map (g.C.Check.places l.check) l.fn.items))
