-- What was found and what is left give what the whole gives.
use Rattle.std.proofs.Common.{◌≡◌, flat_map, take, drop}
use Rattle.net_names.specs.Places.{sooner, least_place}
use Rattle.net_names.specs.Numbers.{repeated, no_name, is_name_of}
use Rattle.rule_judge.proofs.targets.repeated_in.Given as goal

abbrev pub invariant-loop-place : goal.invariant-loop-place
invariant-loop-place g l =
    sooner l.found
    (least_place (repeated (is_name_of (flat_map g.T.Target.words (take l.place l.acts)))
    (flat_map g.T.Target.words (drop l.place l.acts))))
    ≡ sooner l.fn.found (least_place (repeated no_name (flat_map g.T.Target.words l.fn.acts)))
