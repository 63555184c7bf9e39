use Rattle.std.proofs.Common.{◌∙◌, ap, sym, flat_map}
use Rattle.net_reader.specs.declared.raw.RawCond.{RawCond}
use Rattle.net_names.specs.Places.{sooner, least_place}
use Rattle.net_names.specs.Values.{no_value}
use Rattle.net_names.specs.Scopes.{cond_word, var_domain, shape_at}
use Rattle.rule_judge.specs.Rules.{wrong_values}
use Rattle.rule_judge.proofs.conds.judge_cond.Goals as goal

pub returns-in-OneOf-clause-valueless : goal.returns-in-OneOf-clause-valueless
returns-in-OneOf-clause-valueless c =
    let net = c.args.names.now.scope.now.raw.now in
    let m = c.args.names.now.machine.now in
    let shape = c.requires.shape
    ∙ ap (λ (q : RawCond). shape_at net (var_domain net m (cond_word q).name)) c.in-OneOf.is in
    c.no_values.ensures
    ∙ (λ i. sooner c.args.found.valueless
    (least_place (flat_map (no_value (shape i)) (c.as_slice.ensures i))))
    ∙ ap (λ (q : RawCond). sooner c.args.found.valueless (least_place (wrong_values net m q)))
    (sym c.in-OneOf.is)
