use Rattle.std.proofs.Common.{ℕ, replicate, ap, ◌∙◌}
use Rattle.determinism.proofs.AreSayers.{none_said, next_row}
use Rattle.determinism.proofs.sayers.sayers_of.Goals as goal

pub loop-row-init : goal.loop-row-init
loop-row-init c = none_said c.args.marks.now c.in_ok-sayers.sayers
    (c.in_ok-sayers.ensures ∙ ap (λ (n : ℕ). replicate 512 n) c.empty.ensures)

pub loop-row-preserved : goal.loop-row-preserved
loop-row-preserved c =
    next_row c.args.marks.now c.loop-row.sayers c.add_row.new.sayers c.loop-row.row
    c.get-of_row.result.now
    c.loop-row.invariant c.get-of_row.ensures c.add_row.ensures.long c.add_row.ensures.added
