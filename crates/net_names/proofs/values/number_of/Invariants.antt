-- The number among the words from this one on.
use Rattle.std.proofs.Common.{◌≡◌}
use Rattle.net_names.specs.Numbers.{names_of, number_in}
use Rattle.net_names.proofs.NumberIn.{number_from}
use Rattle.net_names.proofs.values.number_of.Given as goal

abbrev pub invariant-loop-number : goal.invariant-loop-number
invariant-loop-number l = number_from l.words l.name l.number ≡ number_in (names_of l.words) l.name
