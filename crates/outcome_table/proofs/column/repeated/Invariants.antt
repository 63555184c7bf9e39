use Rattle.std.proofs.Common.{◌≡◌, flat_map}
use Rattle.polis_base.specs.Lists.{upto}
use Rattle.outcome_table.proofs.column.repeated.Given as goal

abbrev pub invariant-loop : goal.invariant-loop
invariant-loop l = l.made.items ≡ flat_map (λ c. l.piece) (upto l.counter)
