use Rattle.std.proofs.Common.{arith, length}
use Rattle.polis_base.proofs.FirstMark.{none_before, whole_lacks}
use Rattle.journal_text.proofs.SkippedTo.{skipped_to}
use Rattle.journal_text.proofs.cut.next_with.Goals as goal

pub returns-in_default-clause-none : goal.returns-in_default-clause-none
returns-in_default-clause-none c =
    let none = none_before c.args.mark c.args.text.now (length c.args.text.now)
    c.in_default.ensures in
    whole_lacks c.args.mark c.args.text.now (length c.args.text.now) (omega arith) none

pub returns-in-Some-memrchr-clause-some : goal.returns-in-Some-memrchr-clause-some
returns-in-Some-memrchr-clause-some c =
    let found = c.in-Some.ensures in
    let last = c.in-Some-memrchr.ensures in
    let none = none_before c.args.mark c.args.text.now c.in-Some.found found.0.before in
    skipped_to c.args.mark c.args.text.now c.in-Some.found c.in-Some-memrchr.space found.0.high none
    last.0.high last.1
