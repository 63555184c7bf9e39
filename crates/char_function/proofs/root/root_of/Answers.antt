use Rattle.char_function.proofs.FixedKids.{ordered_of}
use Rattle.char_function.proofs.root.root_of.Goals as goal

pub is_allowed-requires : goal.is_allowed-requires
is_allowed-requires c = (c.args.m.now, c.requires.supports, c.requires.long)

pub fixed_root-requires-clause-ordered : goal.fixed_root-requires-clause-ordered
fixed_root-requires-clause-ordered c =
    let m = c.args.m.now in
    ordered_of c.laws_of_computing.ensures.support_by_test m c.requires.sure c.args.order.now
    ((c.is_allowed.ensures m c.requires.sure c.requires.supports c.requires.long).0
    c.if-is_allowed.true)
