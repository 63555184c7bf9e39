use Rattle.std.proofs.Common.{◌≡◌}
use Rattle.polis_base.specs.Lists.{upto}
use Rattle.char_function.proofs.root.numbers_below.Given as goal

abbrev pub invariant-loop-i : goal.invariant-loop-i
invariant-loop-i l = l.list ≡ upto l.i
