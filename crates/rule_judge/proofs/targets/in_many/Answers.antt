use Rattle.std.proofs.Common.{◌≡◌, ◌∙◌, ◌++◌, flat_map}
use Rattle.net_names.specs.Places.{sooner, least_place}
use Rattle.net_names.specs.Numbers.{missing, repeated, no_name}
use Rattle.net_names.specs.Scopes.{state_words}
use Rattle.rule_judge.specs.Rules.{emitted, set_names, not_once}
use Rattle.rule_judge.proofs.LeastPlace.{sooner_least}
use Rattle.net_names.proofs.IfOk.{IfOk_same}
use Rattle.rule_judge.proofs.targets.in_many.Goals as goal

pub returns : goal.returns
returns c =
    let m = c.args.names.now.machine.now in
    let acts = c.args.row.now.acts in
    let emits = not_once m.outputs (flat_map emitted acts) in
    let sets = not_once (state_words m) (flat_map set_names acts) in
    let first : c.in_ok-found.found ≡ sooner c.args.found (least_place emits) =
    c.in_ok-found.ensures
    ∙ (λ i. sooner c.args.found
    (least_place (missing (c.outputs.ensures i) (c.in_ok-emits.ensures i)
    ++ repeated no_name (c.in_ok-emits.ensures i)))) in
    IfOk_same c.not_once-2.result _ _
    ((λ i. sooner (first i)
    (least_place (missing (c.states.ensures i) (c.in_ok-sets.ensures i)
    ++ repeated no_name (c.in_ok-sets.ensures i)))) ∙ sooner_least c.args.found emits sets)
    c.not_once-2.ensures
