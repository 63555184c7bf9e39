use Rattle.machine_compiler.proofs.AreTexts.{AreWritten}
use Rattle.machine_compiler.proofs.PartsSoFar.{PartsSoFar}
use Rattle.machine_compiler.proofs.texts.compile_texts.Given as goal

abbrev pub invariant-loop-k : goal.invariant-loop-k
invariant-loop-k l = PartsSoFar l.net l.k (AreWritten l.net l.listing l.lengths)
