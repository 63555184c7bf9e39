use Rattle.std.proofs.Common.{◌≡◌, ◌∙◌, ap, Err}
use Rattle.journal_text.specs.Items.{as_state}
use Rattle.journal_text.proofs.ReadItems.{takes_value}
use Rattle.journal_text.proofs.codes.push_value.Goals as goal

pub returns-in-Ok-push-clause-ok : goal.returns-in-Ok-push-clause-ok
returns-in-Ok-push-clause-ok c =
    takes_value c.args.net.now (as_state c.args.variable.now) _ _ _ _ c.in-Ok.value
    c.in-Ok.ensures.ok c.in-Ok-push.ensures.ok

pub returns-in-Err-clause-fault : goal.returns-in-Err-clause-fault
returns-in-Err-clause-fault c = λ kind e things.
    let same : c.in-Err.kind ≡ kind = cc in
    c.in-Err.ensures.fault things ∙ ap Err same
