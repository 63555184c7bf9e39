use Rattle.std.proofs.Common.{◌≡◌, [], map}
use Rattle.polis_base.specs.Lists.{upto}
use Rattle.journals.specs.Stamps.{greatest, stamps_at}
use Rattle.net_core.proofs.clocks.no_clocks.Given as goal

abbrev pub invariant-loop : goal.invariant-loop
invariant-loop l = l.clocks ≡ map (λ m. greatest (stamps_at m [])) (upto l.counter)
