use Rattle.transition_table.specs.NetworkFacts.{has_vars}
use Rattle.commands.proofs.MachinesFound.{wrong_snapshot, wrong_within}
use Rattle.commands.proofs.image_file.print_wrong.Goals as goal
use Rattle.polis_base.proofs.ListTests.{all_get}

pub get-machine-requires : goal.get-machine-requires
get-machine-requires c =
    rw c.from.ensures
    (wrong_within c.args.image.now c.args.net.now c.args.machine c.args.snapshot.now c.requires)

pub print_machine_snapshot-requires-clause-sized : goal.print_machine_snapshot-requires-clause-sized
print_machine_snapshot-requires-clause-sized c =
    let net = c.args.net.now in
    all_get (has_vars net.domains net.events) net.machines c.args.machine
    c.get-machine.result.now net.sized_vars (rw c.from.ensures at c.get-machine.ensures)

pub print_machine_snapshot-requires-clause-snapshot :
    goal.print_machine_snapshot-requires-clause-snapshot
print_machine_snapshot-requires-clause-snapshot c =
    wrong_snapshot c.args.image.now c.args.net.now c.args.machine c.args.snapshot.now
    c.get-machine.result.now c.requires (rw c.from.ensures at c.get-machine.ensures)

pub returns-in-Ok : goal.returns-in-Ok
returns-in-Ok c = record {
  number = c.args.machine;
  snapshot = c.args.snapshot.now;
  wrong = c.requires;
  machine = c.get-machine.result.now;
  there = (rw c.from.ensures at c.get-machine.ensures);
  printed_is = c.in-Ok.ensures;
}
