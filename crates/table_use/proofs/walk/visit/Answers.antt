use Rattle.std.proofs.Common.{arith}
use Rattle.domains.proofs.Ranks.{ranks_below}
use Rattle.table_use.proofs.walk.visit.Goals as goal

pub class_at-class-requires : goal.class_at-class-requires
class_at-class-requires c =
    let below = ranks_below c.args.lookup.now.machine.now.vars c.args.codes.now c.requires.fits in
    let number = c.requires.number in
    omega arith

pub fires_at-fires-requires : goal.fires_at-fires-requires
fires_at-fires-requires c =
    let below = ranks_below c.args.lookup.now.machine.now.vars c.args.codes.now c.requires.fits in
    let number = c.requires.number in
    omega arith
