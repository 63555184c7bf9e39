use Rattle.std.proofs.Common.{◌≡◌, take}
use Rattle.journal_replay.proofs.judge.first_entries.Given as goal

abbrev pub invariant-loop-i : goal.invariant-loop-i
invariant-loop-i l = l.first ≡ take l.i l.j
