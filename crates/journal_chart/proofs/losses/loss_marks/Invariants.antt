use Rattle.std.proofs.Common.{◌≡◌, map, take}
use Rattle.polis_base.specs.Lists.{upto}
use Rattle.journal_chart.specs.inner.Marks.{loss_mark_at, rows_of}
use Rattle.journal_chart.proofs.losses.loss_marks.Given as goal

-- of the entries before this one
abbrev pub invariant-loop-p : goal.invariant-loop-p
invariant-loop-p l =
    (l.rows ≡ rows_of l.net (take l.p l.j)) × (l.marks ≡ map (loss_mark_at l.net l.j) (upto l.p))
