use Rattle.std.proofs.Common.{◌∙◌, ap, sym}
use Rattle.net_names.specs.Places.{sooner, least_place}
use Rattle.rule_judge.proofs.FoundInParts.{beyond_some}
use Rattle.rule_judge.proofs.words.beyond.Goals as goal

pub returns-then-most-len : goal.returns-then-most-len
returns-then-most-len c = c.sooner.ensures
    ∙ ap (λ l. sooner c.args.found (least_place l))
    (sym (beyond_some c.args.most c.args.words.now c.get.result.now c.get.ensures))
