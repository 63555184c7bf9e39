use Rattle.std.proofs.Common.{take}
use Rattle.machine_compiler.specs.inner.Tallies.{AreTallies}
use Rattle.machine_compiler.proofs.tallies.count_reactions.Given as goal

abbrev pub invariant-loop-i : goal.invariant-loop-i
invariant-loop-i l = AreTallies l.r.net.now l.r.codes (take l.i l.journal) l.tallies.items
