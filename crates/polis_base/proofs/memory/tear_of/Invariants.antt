use Rattle.std.proofs.Common.{◌≡◌, drop}
use Rattle.polis_base.specs.Memory.{tear_of}
use Rattle.polis_base.proofs.memory.tear_of.Given as goal

-- none before this one is of the call
abbrev pub invariant-loop-tear : goal.invariant-loop-tear
invariant-loop-tear l = tear_of l.call l.failing ≡ tear_of l.call (drop l.tear-index l.failing)
