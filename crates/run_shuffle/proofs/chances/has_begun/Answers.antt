use Rattle.run_shuffle.proofs.BlockTables.{block_has_mark, mark_says}
use Rattle.run_shuffle.proofs.chances.has_begun.Goals as goal

pub get-requires : goal.get-requires
get-requires c =
    let now = c.args.config.now in
    block_has_mark now.net now.trace now.journal c.args.block c.args.ways.now.begun
    c.requires.ways.begun_are c.requires.block

pub returns : goal.returns
returns c =
    let now = c.args.config.now in
    mark_says now.net now.trace now.journal c.args.block c.args.ways.now.begun c.get.result.now
    c.requires.ways.begun_are c.requires.block c.get.ensures
