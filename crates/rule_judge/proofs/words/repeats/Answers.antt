use Rattle.std.proofs.Common.{◌∙◌, ap}
use Rattle.net_names.specs.Places.{sooner, least_place}
use Rattle.net_names.specs.Numbers.{repeated, is_name_of}
use Rattle.rule_judge.proofs.words.repeats.Goals as goal

pub returns : goal.returns
returns c =
    c.in_ok-place.ensures
    ∙ ap (λ taken. sooner c.args.found (least_place (repeated (is_name_of taken) c.args.words.now)))
    c.new-none.ensures
