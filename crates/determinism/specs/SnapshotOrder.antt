-- The order of snapshots by their codes.
use Rattle.domains.specs.Least.{IsUpTo as AreUpTo}
use Rattle.transition_table.specs.declared.snapshot.Snapshot.{Snapshot}

-- s is t or stands before it: of the first two codes that differ the smaller is that of s
abbrev pub IsUpTo : Snapshot → Snapshot → Type 0
IsUpTo s t = AreUpTo s.codes t.codes
