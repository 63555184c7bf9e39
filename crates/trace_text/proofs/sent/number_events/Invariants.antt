use Rattle.trace_text.proofs.EventNumbers.{HasEvents}
use Rattle.trace_text.proofs.sent.number_events.Given as goal

abbrev pub invariant-loop-e : goal.invariant-loop-e
invariant-loop-e l = HasEvents l.net l.e l.table
