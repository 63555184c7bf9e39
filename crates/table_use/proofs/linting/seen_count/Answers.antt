use Rattle.std.proofs.Common.{arith}
use Rattle.table_use.proofs.SeenOnes.{seen_total}
use Rattle.table_use.proofs.linting.seen_count.Goals as goal

pub overflow_sub-result : goal.overflow_sub-result
overflow_sub-result c =
    let sum = seen_total c.args.machine.now in
    omega arith

pub returns : goal.returns
returns c =
    let sum = seen_total c.args.machine.now in
    omega arith
