use Rattle.transition_table.specs.declared.decl.EventDecl.{EventDecl}
use Rattle.journal_text.proofs.NameNumbers.{one_more_noted}
use Rattle.journal_text.proofs.index.number_events.Goals as goal

pub loop-e-preserved : goal.loop-e-preserved
loop-e-preserved c =
    one_more_noted (λ (event : EventDecl). event.name) c.args.net.now.events c.loop-e.e c.get.result.now
    c.loop-e.table c.note.new.self c.get.ensures c.in_ok-note.ensures.number c.loop-e.invariant
