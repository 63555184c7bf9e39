use Rattle.std.proofs.Common.{◌≡◌, ◌/◌, map}
use Rattle.polis_base.specs.Lists.{upto}
use Rattle.net_core.proofs.FirstQueue.{sentinel}
use Rattle.net_core.proofs.config.owings.Owings.new.Given as goal

abbrev pub invariant-loop-from : goal.invariant-loop-from
invariant-loop-from l = record {
  records_are : l.records.items ≡ map sentinel (upto l.from);
  last_are : l.last.items ≡ map (λ s. s) (upto l.from);
}

abbrev pub invariant-loop-key : goal.invariant-loop-key
invariant-loop-key l = l.cursors.items ≡ map (λ k. k / 64) (upto l.key)
