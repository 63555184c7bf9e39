use Rattle.std.proofs.Common.{length, take, ◌∙◌}
use Rattle.transition_table.specs.NetworkFacts.{has}
use Rattle.transition_table.specs.declared.decl.Party.TheVariants.{Env}
use Rattle.journals.specs.Journals.{delivered}
use Rattle.run_shuffle.specs.Blocks.{blocks_to}
use Rattle.run_shuffle.proofs.BlocksByPlaces.{any_more}
use Rattle.run_shuffle.proofs.blocks.has_begun.Goals as goal

pub loop-m-preserved : goal.loop-m-preserved
loop-m-preserved c =
    let now = c.args.config.now in
    c.either-begun.ensures
    ∙ any_more
    (λ m. has (take (length (delivered Env m now.journal)) (blocks_to now.net now.trace m))
    c.args.block) c.loop-m.m c.loop-m.begun c.came_to-here.result c.loop-m.invariant
    c.came_to-here.ensures
