use Rattle.std.proofs.Common.{◌≡◌, ◌≤◌, take}
use Rattle.journal_chart.specs.Pictures.{trimmed}
use Rattle.journal_chart.proofs.texts.trimmed_length.Given as goal

-- of the bytes before this one
abbrev pub invariant-loop-k : goal.invariant-loop-k
invariant-loop-k l = (l.end ≤ l.k) × (take l.end l.bytes ≡ trimmed (take l.k l.bytes))
