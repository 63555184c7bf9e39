use Rattle.std.proofs.Common.{◌<◌, suc, List, Bool, true, ap, sym, ◌∙◌, arith}
use Rattle.std.specs.Prelude.{slice_set}
use Rattle.run_shuffle.specs.inner.Blocks.{settles}
use Rattle.run_shuffle.proofs.BlockTables.{block_has_mark, nothing_begins}
use Rattle.run_shuffle.proofs.BegunBlocks.{table_marked}
use Rattle.run_shuffle.proofs.ways.Ways.begin.Goals as goal

pub set-requires : goal.set-requires
set-requires c =
    let now = c.args.config.now in
    block_has_mark now.net now.trace now.journal c.in-Some.block c.args.self.now.begun
    c.requires.ways.begun_are c.in-Some.ensures.within

pub returns-in-Some-clause-begun : goal.returns-in-Some-clause-begun
returns-in-Some-clause-begun c = λ e code.
    let now = c.args.config.now in
    let within = c.in-Some.ensures.within in
    let below : c.in-Some.block < suc (settles now.trace) = omega (arith, within) in
    c.set.ensures
    ∙ ap (λ (l : List Bool). slice_set l c.in-Some.block true) c.requires.ways.begun_are
    ∙ table_marked c.sending_laws.ensures.trace_gives now.net now.trace now.journal c.args.to e code
    c.in-Some.block c.requires.machine below (sym c.in-Some.ensures.block)

pub returns-in_default-clause-begun : goal.returns-in_default-clause-begun
returns-in_default-clause-begun c = λ e code.
    let now = c.args.config.now in
    c.requires.ways.begun_are
    ∙ nothing_begins c.sending_laws.ensures.trace_gives now.net now.trace now.journal c.args.to e
    code c.requires.machine (sym c.in_default.ensures.block)
