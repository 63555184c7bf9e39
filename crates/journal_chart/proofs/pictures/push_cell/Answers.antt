use Rattle.std.proofs.Common.{◌≡◌, List, ℕ, subst}
use Rattle.std.specs.Prelude.{OnOk}
use Rattle.journal_chart.proofs.Columns.{cell_written}
use Rattle.journal_chart.proofs.pictures.push_cell.Goals as goal

pub returns : goal.returns
returns c =
    subst (λ (l : List ℕ). OnOk c.push_repeated-2.result (c.push_repeated-2.new.into ≡ l))
    (cell_written c.args.width c.args.text.now c.args.into.now c.push_repeated.new.into
    c.push.new.self c.saturating_sub-at.result c.saturating_sub.result c.saturating_sub-at.ensures
    c.saturating_sub.ensures c.in_ok-push_repeated.ensures c.in_ok-push.ensures.ok)
    c.push_repeated-2.ensures
