use Rattle.std.proofs.Common.{◌∙◌, ap}
use Rattle.net_names.specs.Places.{sooner, least_place}
use Rattle.net_names.specs.Numbers.{repeated, no_name}
use Rattle.net_names.specs.Scopes.{domain_words, event_words, machine_words}
use Rattle.rule_judge.proofs.LeastPlace.{three}
use Rattle.net_names.proofs.IfOk.{IfOk_same}
use Rattle.rule_judge.proofs.rules.rule_3.Goals as goal

pub returns : goal.returns
returns c =
    three c.in_ok-found.found c.in_ok-found-2.found c.repeats-3.result
    (repeated no_name (domain_words c.args.raw.now))
    (repeated no_name (event_words c.args.raw.now))
    (repeated no_name (machine_words c.args.raw.now))
    (c.in_ok-found.ensures ∙ ap (λ words. least_place (repeated no_name words)) c.in_ok-domains.ensures)
    (c.in_ok-found-2.ensures
    ∙ ap (λ words. sooner c.in_ok-found.found (least_place (repeated no_name words)))
    c.in_ok-events.ensures)
    (IfOk_same c.repeats-3.result _ _
    (ap (λ words. sooner c.in_ok-found-2.found (least_place (repeated no_name words)))
    c.in_ok-machines.ensures) c.repeats-3.ensures)
