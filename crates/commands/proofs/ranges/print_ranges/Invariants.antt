use Rattle.commands.proofs.RangeLines.{Shown}
use Rattle.commands.proofs.ranges.print_ranges.Given as goal

abbrev pub invariant-loop-k : goal.invariant-loop-k
invariant-loop-k l = Shown l.costs l.net l.k l.text
