use Rattle.std.proofs.Common.{◌+◌, ap, sym, take, ◌∙◌, add-one, arith}
use Rattle.run_shuffle.specs.inner.Blocks.{settles}
use Rattle.run_shuffle.proofs.BlocksByPlaces.{settles_more}
use Rattle.run_shuffle.proofs.blocks.block_at.Goals as goal

pub loop-i-preserved : goal.loop-i-preserved
loop-i-preserved c =
    let more =
    settles_more c.args.trace.now c.loop-i.i c.get.result.now c.get.ensures in
    record {
      is =
          rw add-one (ap (λ k. k + c.settles_of-block.result) c.loop-i.invariant.is
          ∙ ap (λ k. settles (take c.loop-i.i c.args.trace.now) + k) c.settles_of-block.ensures.count
          ∙ sym more);
      few = omega (arith, c.loop-i.invariant.few, c.settles_of-block.ensures.few);
    }
