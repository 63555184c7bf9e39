use Rattle.net_names.specs.Scopes.{state_codes}
use Rattle.rule_judge.proofs.CappedProducts.{times_step, capped_small}
use Rattle.rule_judge.proofs.snapshots.times_states.Goals as goal

pub loop-state-preserved : goal.loop-state-preserved
loop-state-preserved c = record {
  small = capped_small 65537 c.times_up_to-count.result _ c.times_up_to-count.ensures;
  product = times_step 65537 (state_codes c.args.scope.now.raw.now) c.args.states.now
      c.loop-state.state-index c.state-item.result c.loop-state.count c.times_up_to-count.result
      c.count_at.result _ c.loop-state-test.true c.state-item.is c.loop-state.invariant.small
      c.times_up_to-count.ensures c.count_at.ensures c.loop-state.invariant.product;
}
