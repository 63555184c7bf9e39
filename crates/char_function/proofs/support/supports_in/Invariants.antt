use Rattle.std.proofs.Common.{◌≡◌, map}
use Rattle.polis_base.specs.Lists.{upto}
use Rattle.transition_table.specs.Computed.{support_of}
use Rattle.char_function.proofs.support.supports_in.Given as goal

abbrev pub invariant-loop-y : goal.invariant-loop-y
invariant-loop-y l = l.lists ≡ map (support_of l.m) (upto l.y)
