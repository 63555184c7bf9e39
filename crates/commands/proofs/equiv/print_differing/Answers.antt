use Rattle.transition_table.specs.NetworkFacts.{has_vars}
use Rattle.commands.proofs.MachinesFound.{differing_snapshot, differing_within}
use Rattle.commands.proofs.equiv.print_differing.Goals as goal
use Rattle.polis_base.proofs.ListTests.{all_get}

pub get-machine-requires : goal.get-machine-requires
get-machine-requires c =
    rw c.from.ensures
    (differing_within c.args.net.now c.args.other.now c.args.found.now c.requires)

pub print_machine_snapshot-requires-clause-sized : goal.print_machine_snapshot-requires-clause-sized
print_machine_snapshot-requires-clause-sized c =
    let net = c.args.net.now in
    all_get (has_vars net.domains net.events) net.machines c.args.found.now.machine
    c.get-machine.result.now net.sized_vars (rw c.from.ensures at c.get-machine.ensures)

pub print_machine_snapshot-requires-clause-snapshot :
    goal.print_machine_snapshot-requires-clause-snapshot
print_machine_snapshot-requires-clause-snapshot c =
    differing_snapshot c.args.net.now c.args.other.now c.args.found.now c.get-machine.result.now
    c.requires (rw c.from.ensures at c.get-machine.ensures)

pub returns-in-Ok : goal.returns-in-Ok
returns-in-Ok c = record {
  found = c.args.found.now;
  first = c.requires;
  machine = c.get-machine.result.now;
  there = (rw c.from.ensures at c.get-machine.ensures);
  printed_is = c.in-Ok.ensures;
}
