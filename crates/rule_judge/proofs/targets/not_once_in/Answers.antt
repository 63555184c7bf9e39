use Rattle.std.proofs.Common.{◌∙◌, flat_map, ap}
use Rattle.net_names.specs.Places.{sooner, least_place}
use Rattle.net_names.specs.Numbers.{missing, repeated, no_name}
use Rattle.net_names.specs.Tables.{has}
use Rattle.rule_judge.proofs.LeastPlace.{sooner_least}
use Rattle.rule_judge.proofs.targets.not_once_in.Goals as goal

pub returns : goal.returns
returns g c =
    let words = flat_map g.T.Target.words c.args.acts.now in
    c.repeated_in.ensures
    ∙ ap (λ f. sooner f (least_place (repeated no_name words))) c.missing_in-found.ensures
    ∙ sooner_least c.args.found (missing (has c.args.declared.now) words) (repeated no_name words)
