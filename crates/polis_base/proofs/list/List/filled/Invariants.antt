use Rattle.std.proofs.Common.{◌≡◌, replicate}
use Rattle.polis_base.proofs.list.List.filled.Given as goal

-- so many copies so far
abbrev pub invariant-loop : goal.invariant-loop
invariant-loop g l = l.items.items ≡ replicate l.counter l.item
