use Rattle.std.proofs.Common.{◌≡◌, ◌≤◌, map, take}
use Rattle.polis_base.specs.Lists.{upto}
use Rattle.run_shuffle.specs.inner.Blocks.{settles}
use Rattle.run_shuffle.proofs.ways.blocks_of.Given as goal

-- the places before this one have their blocks
abbrev pub invariant-loop-i : goal.invariant-loop-i
invariant-loop-i l = record {
  blocks : l.blocks ≡ map (λ k. settles (take k l.trace)) (upto l.i);
  block : l.block ≡ settles (take l.i l.trace);
  few : l.block ≤ l.i;
}
