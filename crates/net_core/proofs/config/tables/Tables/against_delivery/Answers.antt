use Rattle.std.proofs.Common.{sym, subst}
use Rattle.journals.specs.declared.entry.Entry.{Entry}
use Rattle.journals.specs.Legality.{MayFollow}
use Rattle.net_core.proofs.MayFollow.{not_owed, reacts_if_told}
use Rattle.net_core.proofs.config.tables.Tables.against_delivery.Goals as goal

pub returns-then-may_land : goal.returns-then-may_land
returns-then-may_land c = λ journal reacts current.
    subst (λ (e : Entry). MayFollow c.args.net.now c.args.trace.now journal e) (sym c.in-Dep.is)
    ((c.may_land.ensures journal current).0 c.if-may_land.true)

pub returns-else-may_land : goal.returns-else-may_land
returns-else-may_land c = λ journal reacts current.
    not_owed c.args.net.now c.args.trace.now journal c.args.entry.now c.in-Dep.from c.in-Dep.to
    c.in-Dep.event c.in-Dep.code c.may_land.result c.in-Dep.is (c.may_land.ensures journal current)
    c.if-may_land.false

pub returns-in-Rea : goal.returns-in-Rea
returns-in-Rea c = λ journal reacts current.
    reacts_if_told c.args.net.now c.args.trace.now journal c.args.entry.now c.in-Rea.machine
    c.in-Rea.snapshot c.in-Rea.outcome c.in-Rea.is reacts
