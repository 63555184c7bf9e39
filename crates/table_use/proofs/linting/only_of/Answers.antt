use Rattle.std.proofs.Common.{arith}
use Rattle.table_use.proofs.Repeats.{reach_at, reach_low}
use Rattle.table_use.proofs.RowBoxes.{only_and_both}
use Rattle.table_use.proofs.linting.only_of.Goals as goal

pub get-requires : goal.get-requires
get-requires c =
    reach_low c.args.machine.now c.args.reach.now c.from.result c.args.r c.requires.reach
    c.from.ensures c.requires.row

pub overflow_sub-result : goal.overflow_sub-result
overflow_sub-result c =
    let m = c.args.machine.now in
    let own = reach_at m c.args.reach.now c.from.result c.args.r c.get.result.now c.requires.reach
    c.from.ensures c.requires.row c.get.ensures in
    let parts = only_and_both m c.args.r c.args.k in
    let both = c.reach_of_both.ensures in
    omega arith

pub returns : goal.returns
returns c =
    let m = c.args.machine.now in
    let own = reach_at m c.args.reach.now c.from.result c.args.r c.get.result.now c.requires.reach
    c.from.ensures c.requires.row c.get.ensures in
    let parts = only_and_both m c.args.r c.args.k in
    let both = c.reach_of_both.ensures in
    omega arith
