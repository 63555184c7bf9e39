use Rattle.journal_text.proofs.Machines.{inputs_numbered, states_numbered}
use Rattle.journal_text.proofs.entry.snapshot.Goals as goal

pub codes_of_events-requires-clause-events : goal.codes_of_events-requires-clause-events
codes_of_events-requires-clause-events c =
    rw c.as_slice-inputs.ensures
    (inputs_numbered c.args.net.now _ c.get-machine.result.now c.get-machine.ensures)

pub push_values-requires-clause-states : goal.push_values-requires-clause-states
push_values-requires-clause-states c =
    rw c.as_slice.ensures
    (states_numbered c.args.net.now _ c.get-machine.result.now c.get-machine.ensures)
