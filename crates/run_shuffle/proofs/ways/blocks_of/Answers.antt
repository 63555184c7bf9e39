use Rattle.std.proofs.Common.{arith}
use Rattle.run_shuffle.proofs.BlockTables.{block_counted, block_pushed}
use Rattle.run_shuffle.proofs.ways.blocks_of.Goals as goal

pub loop-i-preserved : goal.loop-i-preserved
loop-i-preserved c =
    let trace = c.args.trace.now in
    let before = c.loop-i.invariant in
    let one = c.settles_of-block.ensures.few in
    record {
      blocks =
          block_pushed trace c.loop-i.i c.loop-i.block c.loop-i.blocks c.push.new.self before.blocks
          before.block c.in_ok-push.ensures.ok;
      block =
          block_counted trace c.loop-i.i c.loop-i.block c.settles_of-block.result c.get.result.now
          c.get.ensures before.block c.settles_of-block.ensures.count;
      few = let few = before.few in omega (arith, few, one);
    }
