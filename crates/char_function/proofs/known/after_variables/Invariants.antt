use Rattle.char_function.specs.inner.Known.{OnlyResults}
use Rattle.std.proofs.Common.{length}
use Rattle.char_function.proofs.known.after_variables.Given as goal

abbrev pub invariant-loop-place : goal.invariant-loop-place
invariant-loop-place l = OnlyResults (length l.m.vars) l.order l.place
