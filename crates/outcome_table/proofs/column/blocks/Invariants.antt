use Rattle.std.proofs.Common.{◌≡◌, flat_map, replicate}
use Rattle.polis_base.specs.Lists.{upto}
use Rattle.outcome_table.proofs.column.blocks.Given as goal

-- the codes before this one
abbrev pub invariant-loop-code : goal.invariant-loop-code
invariant-loop-code l = l.made.items ≡ flat_map (λ c. replicate l.times c) (upto l.code)
