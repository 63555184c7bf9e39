use Rattle.std.proofs.Common.{◌≡◌, ◌++◌, drop, filter_map}
use Rattle.std.specs.List.{enumerate_from}
use Rattle.journal_chart.specs.Notes.{unused_note, unused_notes}
use Rattle.journal_chart.proofs.reaction.push_unused_notes.Given as goal

-- with those of the inputs from this one on they are all
abbrev pub invariant-loop-i : goal.invariant-loop-i
invariant-loop-i l =
    l.notes
    ++ filter_map (unused_note l.r.net.now l.r.machine.now l.r.snapshot.now.codes)
    (enumerate_from l.i (drop l.i l.r.machine.now.inputs))
    ≡ l.fn.notes ++ unused_notes l.r.net.now l.r.machine.now l.r.snapshot.now.codes
