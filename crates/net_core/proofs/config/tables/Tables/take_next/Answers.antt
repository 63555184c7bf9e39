use Rattle.net_core.proofs.Tables.{before_entry}
use Rattle.net_core.proofs.config.tables.Tables.take_next.Goals as goal

pub pass-requires-clause-current : goal.pass-requires-clause-current
pass-requires-clause-current c =
    let tables = c.args.self.now in
    let has = c.requires.current in (
      has.0,
      before_entry c.args.net.now c.args.trace.now has.0 c.args.entry.now tables.readers.items
          tables.moments.items tables.woken tables.cursors tables.owed c.add.new.self has.1 has.2
          c.in_ok-add.ensures.owed,
    )

pub returns : goal.returns
returns c = λ journal follows current.
    let tables = c.args.self.now in
    c.pass.ensures journal
    (before_entry c.args.net.now c.args.trace.now journal c.args.entry.now tables.readers.items
    tables.moments.items tables.woken tables.cursors tables.owed c.add.new.self follows current
    c.in_ok-add.ensures.owed)
