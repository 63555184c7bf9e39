use Rattle.std.proofs.Common.{◌∙◌, ◌+◌, ◌||◌, flat_map, drop, ap, sym}
use Rattle.net_names.specs.Numbers.{is_name_of}
use Rattle.rule_judge.proofs.Repeats.{names_more}
use Rattle.rule_judge.proofs.targets.have_target.Goals as goal

pub loop-act-preserved : goal.loop-act-preserved
loop-act-preserved g c =
    let rest = is_name_of (flat_map g.T.Target.words (drop (c.loop-act.act-index + 1)
    c.args.acts.now)) c.args.name.now in
    ap (λ b. b || rest) (sym c.if-has_target.false)
    ∙ names_more g.T.Target.words c.args.acts.now c.loop-act.act-index c.act-item.result
    c.loop-act-test.true c.act-item.is c.args.name.now c.has_target.result _ c.has_target.ensures
    c.loop-act.invariant

pub returns-then-has_target : goal.returns-then-has_target
returns-then-has_target g c =
    let rest = is_name_of (flat_map g.T.Target.words (drop (c.loop-act.act-index + 1)
    c.args.acts.now)) c.args.name.now in
    ap (λ b. b || rest) (sym c.if-has_target.true)
    ∙ names_more g.T.Target.words c.args.acts.now c.loop-act.act-index c.act-item.result
    c.loop-act-test.true c.act-item.is c.args.name.now c.has_target.result _ c.has_target.ensures
    c.loop-act.invariant
