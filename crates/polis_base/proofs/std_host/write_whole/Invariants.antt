use Rattle.std.proofs.Common.{◌≡◌, ℕ, List, ◌++◌, length}
use Rattle.std.specs.Io.KnownBytes.{Appends}
use Rattle.polis_base.proofs.std_host.write_whole.Given as goal

-- some prefix was written, and the rest is left
abbrev pub invariant-loop-rest : goal.invariant-loop-rest
invariant-loop-rest g l =
    (prefix : List ℕ) × (l.bytes ≡ prefix ++ l.rest)
    × Appends (g.W.Write.contents l.fn.writer) (g.W.Write.contents l.writer) prefix

abbrev pub decreases-loop-rest : goal.decreases-loop-rest
decreases-loop-rest g l = length l.rest
