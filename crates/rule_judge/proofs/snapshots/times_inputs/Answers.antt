use Rattle.net_names.specs.Scopes.{event_codes}
use Rattle.rule_judge.proofs.CappedProducts.{times_step, capped_small}
use Rattle.rule_judge.proofs.snapshots.times_inputs.Goals as goal

pub loop-input-preserved : goal.loop-input-preserved
loop-input-preserved c = record {
  small = capped_small 65537 c.times_up_to-count.result _ c.times_up_to-count.ensures;
  product = times_step 65537 (event_codes c.args.scope.now.raw.now) c.args.inputs.now
      c.loop-input.input-index c.input-item.result c.loop-input.count c.times_up_to-count.result
      c.event_codes.result _ c.loop-input-test.true c.input-item.is c.loop-input.invariant.small
      c.times_up_to-count.ensures c.event_codes.ensures c.loop-input.invariant.product;
}
