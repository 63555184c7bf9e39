use Rattle.std.proofs.Common.{◌∙◌, ap}
use Rattle.net_names.specs.Places.{sooner, least_place}
use Rattle.rule_judge.specs.Rules.{beyond}
use Rattle.net_names.specs.Scopes.{domain_words, event_words, machine_words}
use Rattle.rule_judge.proofs.FoundInParts.{three_plain}
use Rattle.rule_judge.proofs.rules.rule_2.Goals as goal

pub returns : goal.returns
returns c =
    let raw = c.args.raw.now in
    three_plain c.beyond-found.result c.beyond-found-2.result c.beyond.result
    (beyond 64 (domain_words raw)) (beyond 256 (event_words raw))
    (beyond 64 (machine_words raw))
    (c.beyond-found.ensures ∙ ap (λ words. least_place (beyond 64 words)) c.in_ok-domains.ensures)
    (c.beyond-found-2.ensures
    ∙ ap (λ words. sooner c.beyond-found.result (least_place (beyond 256 words)))
    c.in_ok-events.ensures)
    (c.beyond.ensures ∙ ap (λ words. sooner c.beyond-found-2.result (least_place (beyond 64 words)))
    c.in_ok-machines.ensures)
