use Rattle.std.proofs.Common.{◌++◌, List, ℕ, ap, ◌∙◌}
use Rattle.journal_chart.proofs.JoinedTexts.{joined_more}
use Rattle.journal_chart.proofs.texts.push_joined.Goals as goal

pub loop-k-preserved : goal.loop-k-preserved
loop-k-preserved c =
    joined_more c.args.between.now c.args.texts.now c.loop-k.k c.get.result.now c.args.into.now
    c.loop-k.into c.push_if.new.into c.push.new.self c.get.ensures c.loop-k.invariant
    c.in_ok-push_if.ensures
    (c.in_ok-push.ensures.ok ∙ ap (λ (l : List ℕ). c.push_if.new.into ++ l) c.as_slice.ensures)
