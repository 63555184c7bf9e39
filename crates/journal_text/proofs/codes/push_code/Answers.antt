use Rattle.std.proofs.Common.{◌≡◌, ◌∙◌, ap, Err}
use Rattle.journal_text.specs.declared.fault.JournalKind.TheVariants.{Value}
use Rattle.journal_text.proofs.ReadItems.{takes_code}
use Rattle.journal_text.proofs.codes.push_code.Goals as goal

pub returns-in-Ok-clause-ok : goal.returns-in-Ok-clause-ok
returns-in-Ok-clause-ok c =
    takes_code c.args.net.now (c.args.name.now, c.args.domain) _ _ _ _ c.in-Some.code
    c.in-Some.ensures.some c.in-Ok.ensures.ok

pub returns-in-None-clause-fault : goal.returns-in-None-clause-fault
returns-in-None-clause-fault c = λ kind e things.
    let same : Value ≡ kind = cc in
    c.in-None.ensures.none things ∙ ap Err same
