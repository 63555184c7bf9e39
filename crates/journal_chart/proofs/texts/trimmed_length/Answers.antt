use Rattle.journal_chart.proofs.JoinedTexts.{ends_more}
use Rattle.journal_chart.proofs.texts.trimmed_length.Goals as goal

pub loop-k-preserved : goal.loop-k-preserved
loop-k-preserved c =
    ends_more c.args.bytes.now c.loop-k.k c.loop-k.end c.end_after-end.result c.loop-k-test.true
    c.loop-k.invariant.0 c.loop-k.invariant.1 c.end_after-end.ensures
