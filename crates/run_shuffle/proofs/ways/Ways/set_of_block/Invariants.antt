use Rattle.run_shuffle.specs.inner.Ways.{IsSetOf, is_of_block}
use Rattle.run_shuffle.proofs.ways.Ways.set_of_block.Given as goal

-- the machines before this one are told
abbrev pub invariant-loop-m : goal.invariant-loop-m
invariant-loop-m l =
    IsSetOf l.m (is_of_block l.config.net l.config.trace l.config.journal l.block) l.set
