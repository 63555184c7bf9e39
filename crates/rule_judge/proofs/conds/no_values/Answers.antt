use Rattle.std.proofs.Common.{option_copied}
use Rattle.net_names.specs.Values.{no_value}
use Rattle.rule_judge.proofs.LeastPlace.{found_more}
use Rattle.rule_judge.proofs.conds.no_values.Goals as goal

pub loop-value-preserved : goal.loop-value-preserved
loop-value-preserved c =
    found_more (no_value (option_copied c.args.shape)) c.args.values.now c.loop-value.value-index
    c.value-item.result c.loop-value.found c.no_value-found.result _ c.loop-value-test.true
    c.value-item.is c.no_value-found.ensures c.loop-value.invariant
