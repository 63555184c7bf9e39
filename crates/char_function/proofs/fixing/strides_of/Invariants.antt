use Rattle.char_function.proofs.Strides.{AreStridesTo}
use Rattle.char_function.proofs.fixing.strides_of.Given as goal

abbrev pub invariant-loop-v : goal.invariant-loop-v
invariant-loop-v l = AreStridesTo l.m.vars l.strides l.v
