use Rattle.std.proofs.Common.{length}
use Rattle.journal_text.proofs.LineSteps.{IsRead}
use Rattle.journal_text.proofs.read.read_lines.Given as goal

-- the lines before the rest are read
abbrev pub invariant-loop-after : goal.invariant-loop-after
invariant-loop-after l = IsRead l.index.net.now l.stamped l.text l.stamps l.journal l.rest

abbrev pub decreases-loop-after : goal.decreases-loop-after
decreases-loop-after l = length l.rest
