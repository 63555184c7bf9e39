use Rattle.std.proofs.Common.{◌≡◌, take}
use Rattle.transition_table.specs.NetworkFacts.{has}
use Rattle.run_shuffle.specs.inner.Blocks.{blocks_read}
use Rattle.run_shuffle.proofs.blocks.came_to.Given as goal

-- those before this place are looked at
abbrev pub invariant-loop-i : goal.invariant-loop-i
invariant-loop-i l =
    l.came ≡ has (blocks_read l.config.net l.m 0 (take l.i l.config.trace)) l.block
