use Rattle.std.proofs.Common.{◌≡◌, take}
use Rattle.run_watch.specs.Watches.{last_receiver}
use Rattle.run_watch.proofs.origin.last_receiver.Given as goal

-- that of the entries before this one
abbrev pub invariant-loop-p : goal.invariant-loop-p
invariant-loop-p l = l.last ≡ last_receiver (take l.p l.watch)
