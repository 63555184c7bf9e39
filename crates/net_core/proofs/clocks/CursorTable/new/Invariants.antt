use Rattle.std.proofs.Common.{◌≡◌, replicate}
use Rattle.net_core.proofs.clocks.CursorTable.new.Given as goal

abbrev pub invariant-loop : goal.invariant-loop
invariant-loop l =
    l.items.items ≡ replicate l.counter (replicate l.machines (record { firing = 0; taken = 0 }))
