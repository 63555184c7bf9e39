use Rattle.std.proofs.Common.{◌≡◌, ◌<◌, length}
use Rattle.run_shuffle.specs.Moves.{next_sends}
use Rattle.run_shuffle.specs.Shuffles.{move_at}
use Rattle.run_shuffle.proofs.WaysGive.{sends_from}
use Rattle.run_shuffle.proofs.chances.send.Given as goal

-- of the deliveries from this sender on it is the one that is left to be found
abbrev pub invariant-loop-s : goal.invariant-loop-s
invariant-loop-s l = record {
  below : l.left < length (sends_from l.config l.s);
  same : move_at (sends_from l.config l.s) l.left
      ≡ move_at (next_sends l.config.net l.config.trace l.config.journal) l.number;
}
