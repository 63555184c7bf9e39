-- What was found and what is left give what the whole gives.
use Rattle.std.proofs.Common.{◌≡◌, flat_map, drop, option_copied}
use Rattle.net_names.specs.Places.{sooner, least_place}
use Rattle.net_names.specs.Values.{no_value}
use Rattle.rule_judge.proofs.conds.no_values.Given as goal

abbrev pub invariant-loop-value : goal.invariant-loop-value
invariant-loop-value l =
    sooner l.found (least_place
    (flat_map (no_value (option_copied l.shape)) (drop l.value-index l.values)))
    ≡ sooner l.fn.found (least_place (flat_map (no_value (option_copied l.shape)) l.fn.values))
