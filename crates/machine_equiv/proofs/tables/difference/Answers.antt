use Rattle.std.proofs.Common.{subst}
use Rattle.machine_equiv.specs.inner.FirstOthers.{IsPlaceOfDifference}
use Rattle.machine_equiv.proofs.StandIn.{same_lists_same_table}
use Rattle.machine_equiv.proofs.tables.difference.Goals as goal

pub snapshot_of-requires : goal.snapshot_of-requires
snapshot_of-requires c =
    (subst (IsPlaceOfDifference c.args.a.now c.args.b.now) c.in-Some.is c.in_ok-i.ensures).0

pub returns-in_ok-s-in-Some : goal.returns-in_ok-s-in-Some
returns-in_ok-s-in-Some c =
    (subst (IsPlaceOfDifference c.args.a.now c.args.b.now) c.in-Some.is c.in_ok-i.ensures).1
    c.in_ok-s-in-Some.s c.in_ok-s-in-Some.ensures

pub returns-in-None : goal.returns-in-None
returns-in-None c = subst (IsPlaceOfDifference c.args.a.now c.args.b.now) c.in-None.is c.in_ok-i.ensures

pub returns-then-same_rows : goal.returns-then-same_rows
returns-then-same_rows c =
    same_lists_same_table c.args.a.now c.args.b.now c.requires.form
    (c.same_rows.ensures c.if-same_rows.true)
