use Rattle.std.proofs.Common.{ap, ◌∙◌, sym}
use Rattle.journal_text.specs.Reading.{read_as}
use Rattle.journal_text.proofs.LineSteps.{bytes_after, all_read}
use Rattle.journal_text.proofs.read.finish.Goals as goal

pub returns-then-not-is_empty-clause-fault : goal.returns-then-not-is_empty-clause-fault
returns-then-not-is_empty-clause-fault c =
    ap (read_as c.args.stamped)
    (bytes_after c.args.line c.args.after.now _ (sym c.is_empty.ensures ∙ c.if-not-is_empty.true))

pub returns-clause-ok : goal.returns-clause-ok
returns-clause-ok c =
    rw c.then_some.ensures
    (all_read c.args.line c.args.after.now c.args.stamped c.args.stamps c.args.journal
    c.args.says_complete (sym c.is_empty.ensures ∙ c.if-not-is_empty.false) c.requires.stamps)
