use Rattle.journal_text.proofs.Machines.{outputs_numbered, states_numbered}
use Rattle.journal_text.proofs.entry.outcome.Goals as goal

pub codes_of_states-requires-clause-states : goal.codes_of_states-requires-clause-states
codes_of_states-requires-clause-states c =
    rw c.as_slice.ensures
    (states_numbered c.args.net.now _ c.get-machine.result.now c.get-machine.ensures)

pub codes_of_events-requires-clause-events : goal.codes_of_events-requires-clause-events
codes_of_events-requires-clause-events c =
    rw c.as_slice-outputs.ensures
    (outputs_numbered c.args.net.now _ c.get-machine.result.now c.get-machine.ensures)
