use Rattle.std.proofs.Common.{[], ◌∷◌, ◌++◌, length, ap, sym, subst, ◌∙◌, arith}
use Rattle.std.proofs.lemmas.List.{length_push}
use Rattle.journals.specs.declared.entry.Entry.{Entry}
use Rattle.journals.specs.Journals.{FitsNetwork}
use Rattle.net_core.specs.Tables.{AreTables}
use Rattle.net_core.specs.inner.Tables.{AreBefore}
use Rattle.net_core.proofs.Tables.{before_entry, last_item}
use Rattle.net_core.proofs.config.tables.Tables.take.Goals as goal

pub write-requires-clause-fits : goal.write-requires-clause-fits
write-requires-clause-fits c = c.requires.fits

pub write-requires-clause-readers : goal.write-requires-clause-readers
write-requires-clause-readers c =
    rw c.deref.ensures.value c.requires.current.readers_are

pub get-requires : goal.get-requires
get-requires c =
    let many = ap length c.in_ok-write.ensures.journal
    ∙ length_push c.args.journal.now c.args.entry in
    let place = c.len-place.ensures in
    omega arith

pub pass-requires-clause-fits : goal.pass-requires-clause-fits
pass-requires-clause-fits c =
    let is = last_item c.args.journal.now c.write.new.journal c.len-place.result c.args.entry
    c.get.result.now c.in_ok-write.ensures.journal c.len-place.ensures c.get.ensures in
    subst (FitsNetwork c.args.net.now) (sym is) c.requires.fits

pub returns-clause-journal : goal.returns-clause-journal
returns-clause-journal c = c.in_ok-write.ensures.journal

pub pass-requires-clause-current : goal.pass-requires-clause-current
pass-requires-clause-current c =
    let tables = c.args.self.now in
    let is = last_item c.args.journal.now c.write.new.journal c.len-place.result c.args.entry
    c.get.result.now c.in_ok-write.ensures.journal c.len-place.ensures c.get.ensures in (
      c.args.journal.now,
      subst (λ (e : Entry). AreBefore c.args.net.now c.args.trace.now c.args.journal.now e
          tables.readers.items tables.moments.items tables.woken tables.cursors c.write.new.self)
          (sym is)
          (before_entry c.args.net.now c.args.trace.now c.args.journal.now c.args.entry
          tables.readers.items tables.moments.items tables.woken tables.cursors tables.owed
          c.write.new.self c.requires.follows c.requires.current c.in_ok-write.ensures.owed),
    )

pub returns-clause-current : goal.returns-clause-current
returns-clause-current c =
    let tables = c.args.self.now in
    let new = c.pass.new.self in
    let is = last_item c.args.journal.now c.write.new.journal c.len-place.result c.args.entry
    c.get.result.now c.in_ok-write.ensures.journal c.len-place.ensures c.get.ensures in
    subst (λ (e : Entry). AreTables c.args.net.now c.args.trace.now
    (c.args.journal.now ++ e ∷ []) new.readers.items new.moments.items new.woken new.cursors
    new.owed) is
    (c.pass.ensures c.args.journal.now
    (subst (λ (e : Entry). AreBefore c.args.net.now c.args.trace.now c.args.journal.now e
    tables.readers.items tables.moments.items tables.woken tables.cursors c.write.new.self)
    (sym is)
    (before_entry c.args.net.now c.args.trace.now c.args.journal.now c.args.entry
    tables.readers.items tables.moments.items tables.woken tables.cursors tables.owed
    c.write.new.self c.requires.follows c.requires.current c.in_ok-write.ensures.owed)))
