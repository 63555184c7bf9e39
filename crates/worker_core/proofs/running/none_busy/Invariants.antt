use Rattle.std.proofs.Common.{◌≡◌, replicate, None}
use Rattle.worker_core.proofs.running.none_busy.Given as goal

abbrev pub invariant-loop : goal.invariant-loop
invariant-loop l = l.hands.items ≡ replicate l.counter None
