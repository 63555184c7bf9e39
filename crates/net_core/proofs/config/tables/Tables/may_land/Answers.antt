use Rattle.std.proofs.Common.{length, ap, ◌∙◌, arith}
use Rattle.journals.specs.Cursors.{cursor}
use Rattle.net_core.proofs.MayFollow.{env_lands, machine_lands, machine_owes_none}
use Rattle.journals.proofs.MomentsAfter.{length_table}
use Rattle.net_core.proofs.Tables.{table_item}
use Rattle.net_core.proofs.config.tables.Tables.may_land.Goals as goal

pub get-requires : goal.get-requires
get-requires c =
    let below = c.requires.to in
    let size = ap length c.requires.current.1.cursors_are
    ∙ length_table (cursor c.args.net.now c.args.trace.now c.requires.current.0)
    (length c.args.net.now.machines) in
    omega arith

pub returns-in-Env : goal.returns-in-Env
returns-in-Env c = λ journal current.
    let a = c.args in
    let net = a.net.now in
    let trace = a.trace.now in
    let at = table_item (cursor net trace journal) (length net.machines) a.self.now.cursors a.to
    c.get.result current.cursors_are c.requires.to c.get.ensures in
    env_lands net trace journal a.from a.to a.event a.code c.get.result c.is_item.result
    c.sending_laws.ensures.at_cursor current.legal c.in-Env.is at c.is_item.ensures

pub returns-in-Some : goal.returns-in-Some
returns-in-Some c = λ journal current.
    let a = c.args in
    rw c.brings.ensures
    (machine_lands a.net.now a.trace.now journal a.self.now.owed a.from c.in-Machine.s a.to a.event
    a.code c.first_between.result c.in-Some.owed c.sending_laws.ensures.first_of_way current.legal
    c.in-Machine.is current.owed_are c.first_between.ensures c.in-Some.is)

pub returns-in-None : goal.returns-in-None
returns-in-None c = λ journal current.
    let a = c.args in
    machine_owes_none a.net.now a.trace.now journal a.self.now.owed a.from c.in-Machine.s a.to
    a.event a.code c.first_between.result c.sending_laws.ensures.first_of_way current.legal
    c.in-Machine.is current.owed_are c.first_between.ensures c.in-None.is
