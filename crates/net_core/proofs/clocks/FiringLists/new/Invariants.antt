use Rattle.std.proofs.Common.{◌≡◌, [], map}
use Rattle.polis_base.specs.Lists.{upto}
use Rattle.net_core.specs.inner.Clocks.{firings_of}
use Rattle.net_core.proofs.clocks.FiringLists.new.Given as goal

abbrev pub invariant-loop : goal.invariant-loop
invariant-loop l = l.items.items ≡ map (firings_of []) (upto l.counter)
