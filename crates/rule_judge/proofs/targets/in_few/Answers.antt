use Rattle.std.proofs.Common.{◌≡◌, ◌∙◌, ◌++◌, flat_map}
use Rattle.net_names.specs.Places.{sooner, least_place}
use Rattle.net_names.specs.Numbers.{missing, repeated, no_name}
use Rattle.net_names.specs.Scopes.{state_words}
use Rattle.rule_judge.specs.Rules.{emitted, set_names, not_once}
use Rattle.rule_judge.proofs.LeastPlace.{sooner_least}
use Rattle.rule_judge.proofs.targets.in_few.Goals as goal

pub returns : goal.returns
returns c =
    let m = c.args.names.now.machine.now in
    let emits = flat_map emitted c.args.acts.now in
    let sets = flat_map set_names c.args.acts.now in
    let first : c.not_once_in-found.result ≡ sooner c.args.found (least_place (not_once m.outputs emits)) =
    c.not_once_in-found.ensures
    ∙ (λ i. sooner c.args.found
    (least_place (missing (c.outputs.ensures i) emits ++ repeated no_name emits))) in
    c.not_once_in.ensures
    ∙ (λ i. sooner (first i)
    (least_place (missing (c.states.ensures i) sets ++ repeated no_name sets)))
    ∙ sooner_least c.args.found (not_once m.outputs emits) (not_once (state_words m) sets)
