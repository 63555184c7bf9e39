use Rattle.trace_text.specs.Traces.{is_sent_event}
use Rattle.trace_text.proofs.IsSentEvent.{find_next}
use Rattle.trace_text.proofs.Items.{not_sent}
use Rattle.trace_text.proofs.sent.keep_tokens.Goals as goal

pub loop-e-preserved : goal.loop-e-preserved
loop-e-preserved c = λ word strange.
    find_next (is_sent_event c.args.net.now word) c.loop-e.e (c.loop-e.invariant word strange)
    (not_sent c.args.net.now word c.loop-e.e c.get.result.now c.get.ensures
    c.bytes-token.ensures.name strange)
