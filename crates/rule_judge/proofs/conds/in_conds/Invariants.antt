-- What was found and what is left give what the whole gives.
use Rattle.std.proofs.Common.{◌≡◌, flat_map, drop}
use Rattle.net_names.specs.Places.{sooner, least_place}
use Rattle.rule_judge.specs.Rules.{unknown, unsuited, wrong_values}
use Rattle.rule_judge.proofs.conds.in_conds.Given as goal

abbrev pub invariant-loop-cond : goal.invariant-loop-cond
invariant-loop-cond l =
    (sooner l.found.unknown
    (least_place (flat_map (unknown l.names.machine.now) (drop l.cond-index l.conds)))
    ≡ sooner l.fn.found.unknown (least_place (flat_map (unknown l.names.machine.now) l.fn.conds)))
    × (sooner l.found.unsuited
    (least_place (flat_map (unsuited l.names.scope.now.raw.now l.names.machine.now)
    (drop l.cond-index l.conds))) ≡ sooner l.fn.found.unsuited
    (least_place (flat_map (unsuited l.names.scope.now.raw.now l.names.machine.now) l.fn.conds)))
    × (sooner l.found.valueless
    (least_place (flat_map (wrong_values l.names.scope.now.raw.now l.names.machine.now)
    (drop l.cond-index l.conds))) ≡ sooner l.fn.found.valueless
    (least_place (flat_map (wrong_values l.names.scope.now.raw.now l.names.machine.now) l.fn.conds)))
