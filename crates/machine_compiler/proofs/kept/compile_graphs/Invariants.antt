use Rattle.machine_compiler.proofs.PartsSoFar.{PartsSoFar}
use Rattle.machine_compiler.proofs.AreGraphs.{AreKept}
use Rattle.machine_compiler.proofs.kept.compile_graphs.Given as goal

abbrev pub invariant-loop-k : goal.invariant-loop-k
invariant-loop-k l = PartsSoFar l.net l.k (AreKept l.net l.graphs l.lengths)
