use Rattle.std.proofs.Common.{◌&&◌, ◌==◌, ap, sym, ◌∙◌}
use Rattle.run_shuffle.proofs.BlocksByPlaces.{of_block}
use Rattle.run_shuffle.proofs.blocks.is_of_block.Goals as goal

pub returns-then-read : goal.returns-then-read
returns-then-read c item at =
    let now = c.args.config.now in
    ap (λ b. b && c.block_at-own.result == c.args.block) (sym c.if-read.true)
    ∙ of_block now.net c.args.m now.trace c.trace-trace.result.now c.args.place c.args.block item
    c.get.result.now c.reads-read.result c.block_at-own.result c.trace-trace.ensures.trace
    c.get.ensures at c.reads-read.ensures c.block_at-own.ensures

pub returns-else-read : goal.returns-else-read
returns-else-read c item at =
    let now = c.args.config.now in
    c.if-read.false
    ∙ ap (λ b. b && c.block_at-own.result == c.args.block) (sym c.if-read.false)
    ∙ of_block now.net c.args.m now.trace c.trace-trace.result.now c.args.place c.args.block item
    c.get.result.now c.reads-read.result c.block_at-own.result c.trace-trace.ensures.trace
    c.get.ensures at c.reads-read.ensures c.block_at-own.ensures
