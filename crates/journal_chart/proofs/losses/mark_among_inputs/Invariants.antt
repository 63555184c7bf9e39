use Rattle.std.proofs.Common.{◌≡◌, drop}
use Rattle.journal_chart.specs.inner.Marks.{mark_among}
use Rattle.journal_chart.proofs.losses.mark_among_inputs.Given as goal

-- it isn't among those before this one
abbrev pub invariant-loop-i : goal.invariant-loop-i
invariant-loop-i l =
    mark_among l.event (drop l.i l.inputs) (drop l.i l.marks)
    ≡ mark_among l.event l.inputs l.marks
