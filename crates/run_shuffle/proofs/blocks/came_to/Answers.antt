use Rattle.std.proofs.Common.{◌≡◌, ap, sym, take, ◌∙◌, arith}
use Rattle.transition_table.specs.NetworkFacts.{has}
use Rattle.run_shuffle.specs.inner.Blocks.{blocks_read}
use Rattle.run_shuffle.proofs.BlocksByPlaces.{came_by_place, came_more, cursor_within}
use Rattle.run_shuffle.proofs.blocks.came_to.Goals as goal

pub is_of_block-here-requires-clause-place : goal.is_of_block-here-requires-clause-place
is_of_block-here-requires-clause-place c =
    let now = c.args.config.now in
    let inside = cursor_within now.net now.trace now.journal c.args.m in
    omega (arith, inside, c.place-place.ensures.place)

pub loop-i-preserved : goal.loop-i-preserved
loop-i-preserved c =
    let now = c.args.config.now in
    let inside = cursor_within now.net now.trace now.journal c.args.m in
    c.either-came.ensures
    ∙ came_more now.net c.args.m now.trace c.loop-i.i c.args.block c.loop-i.came
    c.is_of_block-here.result (omega (arith, inside, c.place-place.ensures.place))
    c.loop-i.invariant c.is_of_block-here.ensures

pub returns : goal.returns
returns c =
    let now = c.args.config.now in
    let at_end : c.loop-i.i ≡ c.place-place.result = omega arith in
    c.loop-i.invariant
    ∙ ap (λ k. has (blocks_read now.net c.args.m 0 (take k now.trace)) c.args.block)
    (at_end ∙ c.place-place.ensures.place)
    ∙ sym
    (came_by_place c.sending_laws.ensures.trace_gives now.net now.trace now.journal c.args.m
    c.args.block)
