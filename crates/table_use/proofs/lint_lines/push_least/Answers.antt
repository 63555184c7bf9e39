use Rattle.table_use.proofs.InNetwork.{vars_sized}
use Rattle.table_use.proofs.lint_lines.push_least.Goals as goal

pub push_snapshot-requires-clause-sized : goal.push_snapshot-requires-clause-sized
push_snapshot-requires-clause-sized c =
    vars_sized c.args.net.now c.args.machine.now c.requires.machine
