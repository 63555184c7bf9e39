use Rattle.std.proofs.Common.{◌≡◌, take}
use Rattle.journals.specs.Journals.{snap}
use Rattle.journals.specs.Logs.{entries}
use Rattle.event_buffer.proofs.cell.catch_up.Given as goal

-- it is that of the entries before this one
abbrev pub invariant-loop-k : goal.invariant-loop-k
invariant-loop-k l = l.moment ≡ snap l.net (entries (take l.k l.log)) l.m
