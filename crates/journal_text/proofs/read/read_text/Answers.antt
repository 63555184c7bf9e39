use Rattle.std.proofs.Common.{◌∙◌}
use Rattle.journal_text.proofs.LineSteps.{by_version, read_is_journal, read_is_short, read_has_stamps}
use Rattle.journal_text.proofs.read.read_text.Goals as goal

pub returns-in-Some-Some-clause-fits : goal.returns-in-Some-Some-clause-fits
returns-in-Some-Some-clause-fits c =
    let is = by_version c.args.net.now c.args.text.now _ c.in-Some-Some.rest.now c.version.result
    c.in-Some-Some.stamped (rw c.in-Some-Some.is-1 at c.next_line.ensures.prefix)
    c.version.ensures c.in-Some-Some.is-0 in
    read_is_journal c.args.net.now c.args.text.now _ c.read_body.result is c.read_body.ensures.ok

pub returns-in-Some-Some-clause-few : goal.returns-in-Some-Some-clause-few
returns-in-Some-Some-clause-few c =
    let is = by_version c.args.net.now c.args.text.now _ c.in-Some-Some.rest.now c.version.result
    c.in-Some-Some.stamped (rw c.in-Some-Some.is-1 at c.next_line.ensures.prefix)
    c.version.ensures c.in-Some-Some.is-0 in
    read_is_short c.args.net.now c.args.text.now _ c.read_body.result is c.read_body.ensures.ok

pub returns-in-Some-Some-clause-stamps : goal.returns-in-Some-Some-clause-stamps
returns-in-Some-Some-clause-stamps c =
    let is = by_version c.args.net.now c.args.text.now _ c.in-Some-Some.rest.now c.version.result
    c.in-Some-Some.stamped (rw c.in-Some-Some.is-1 at c.next_line.ensures.prefix)
    c.version.ensures c.in-Some-Some.is-0 in
    read_has_stamps c.args.net.now c.args.text.now _ c.read_body.result is c.read_body.ensures.ok

pub returns-in-Some-Some-clause-fault : goal.returns-in-Some-Some-clause-fault
returns-in-Some-Some-clause-fault c = λ fault e other.
    by_version c.args.net.now c.args.text.now _ c.in-Some-Some.rest.now c.version.result
    c.in-Some-Some.stamped (rw c.in-Some-Some.is-1 at c.next_line.ensures.prefix)
    c.version.ensures c.in-Some-Some.is-0
    ∙ c.read_body.ensures.fault fault e other
