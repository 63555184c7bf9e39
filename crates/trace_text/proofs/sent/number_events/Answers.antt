use Rattle.std.proofs.Common.{sym, ◌∙◌}
use Rattle.trace_text.proofs.EventNumbers.{one_noted, none_noted}
use Rattle.trace_text.proofs.sent.number_events.Goals as goal
use Rattle.trace_text.proofs.sent.number_events.Goals.{then-is_from_env+in_ok-note, else-is_from_env}

pub loop-e-preserved : goal.loop-e-preserved
loop-e-preserved c =
    elim c.if-is_from_env.branch [
      | then-is_from_env+in_ok-note w ↦ rw w.table-is
          (one_noted c.args.net.now c.loop-e.e c.get-event.result.now c.loop-e.table w.note.new.self
          c.get-event.ensures (sym c.is_from_env.ensures ∙ w.if-is_from_env.true)
          w.in_ok-note.ensures.number c.loop-e.invariant)
      | else-is_from_env w ↦ rw w.table-is
          (none_noted c.args.net.now c.loop-e.e c.get-event.result.now c.loop-e.table
          c.get-event.ensures (sym c.is_from_env.ensures ∙ w.if-is_from_env.false) c.loop-e.invariant)
    ]
