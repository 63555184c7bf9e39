use Rattle.machine_compiler.specs.inner.Shares.{AreRightEach}
use Rattle.machine_compiler.proofs.shares.compile_share.Given as goal

abbrev pub invariant-loop : goal.invariant-loop
invariant-loop g l = AreRightEach l.net l.share.items
