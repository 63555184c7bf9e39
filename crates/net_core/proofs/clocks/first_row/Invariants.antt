use Rattle.std.proofs.Common.{◌≡◌, replicate}
use Rattle.net_core.proofs.clocks.first_row.Given as goal

abbrev pub invariant-loop : goal.invariant-loop
invariant-loop l = l.row ≡ replicate l.counter (record { firing = 0; taken = 0 })
