use Rattle.std.proofs.Common.{◌≤◌}
use Rattle.net_reader.specs.declared.raw.RawAct.{RawAct}
use Rattle.rule_judge.specs.Rules.{source_of}
use Rattle.net_rules.specs.inner.Sound.{amount_of}
use Rattle.net_rules.specs.Networks.{act_of}
use Rattle.net_rules.proofs.Zips.{each_item, map_step}
use Rattle.net_rules.proofs.row_list.acts_of.Goals as goal

pub act_of-requires-clause-small : goal.act_of-requires-clause-small
act_of-requires-clause-small c =
    each_item (λ (a : RawAct). amount_of (source_of a) ≤ 255) c.args.acts.now c.loop-act.act-index
    c.act-item.result c.loop-act-test.true c.act-item.is c.requires.small

pub loop-act-preserved : goal.loop-act-preserved
loop-act-preserved c =
    map_step (act_of c.args.names.now.scope.now.raw.now c.args.names.now.machine.now)
    c.args.acts.now c.loop-act.act-index c.act-item.result c.loop-act.made c.push.new.self
    c.act_of.result c.loop-act-test.true c.act-item.is c.in_ok-push.ensures.ok c.act_of.ensures
    c.loop-act.invariant
