use Rattle.std.proofs.Common.{◌≡◌, ◌++◌, drop}
use Rattle.journal_chart.specs.inner.Marks.{marks_after}
use Rattle.journal_chart.proofs.losses.next_marks.Given as goal

-- with those from this one on they are all
abbrev pub invariant-loop-i : goal.invariant-loop-i
invariant-loop-i l =
    l.after ++ marks_after l.p l.entry (drop l.i l.inputs) (drop l.i l.marks)
    ≡ marks_after l.p l.entry l.inputs l.marks
