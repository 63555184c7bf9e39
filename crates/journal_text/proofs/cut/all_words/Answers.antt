use Rattle.std.proofs.Common.{◌∙◌, sym}
use Rattle.journal_text.proofs.CutAt.{one_more}
use Rattle.journal_text.proofs.cut.all_words.Goals as goal

pub returns-in-None : goal.returns-in-None
returns-in-None c =
    let all = c.loop-after.invariant ∙ one_more _ _ _ c.in-Some.ensures.some c.in-Some.ensures.word in
    sym (rw c.in-None.is at all)

pub loop-after-preserved : goal.loop-after-preserved
loop-after-preserved c =
    let all = c.loop-after.invariant ∙ one_more _ _ _ c.in-Some.ensures.some c.in-Some.ensures.word in
    rw c.in-Some-after.is at all
