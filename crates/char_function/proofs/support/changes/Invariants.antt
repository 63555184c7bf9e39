use Rattle.std.proofs.Common.{◌≡◌, ◌<◌, ℕ, false}
use Rattle.char_function.proofs.ColumnBlocks.{steps}
use Rattle.char_function.proofs.support.changes.Given as goal

-- in the blocks before this one no neighbours differ
abbrev pub invariant-loop-j : goal.invariant-loop-j
invariant-loop-j l = (k : ℕ) → k < l.j → steps l.column l.block l.stride k ≡ false
