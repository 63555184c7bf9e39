use Rattle.std.proofs.Common.{◌∙◌, ap}
use Rattle.net_names.specs.Places.{sooner, least_place}
use Rattle.net_names.specs.Numbers.{missing, repeated, no_name}
use Rattle.net_names.specs.Tables.{has}
use Rattle.rule_judge.proofs.LeastPlace.{sooner_least}
use Rattle.net_names.proofs.IfOk.{IfOk_same}
use Rattle.rule_judge.proofs.words.not_once.Goals as goal

pub returns : goal.returns
returns c =
    let words = c.args.words.now in
    IfOk_same c.repeats.result _ _
    (ap (λ f. sooner f (least_place (repeated no_name words))) c.missing-found.ensures
    ∙ sooner_least c.args.found (missing (has c.args.declared.now) words)
    (repeated no_name words))
    c.repeats.ensures
