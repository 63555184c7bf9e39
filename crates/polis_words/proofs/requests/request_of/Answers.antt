use Rattle.std.proofs.Common.{Option, Some, None}
use Rattle.std.specs.Prelude.{IfNone}
use Rattle.polis_words.proofs.Commands.{no_command}
use Rattle.polis_words.proofs.requests.request_of.Goals as goal

if_none : {X : Type 0} (found : Option X) {N : Type 0} → N → IfNone found N
if_none None none = none
if_none (Some x) none = tt

pub returns-in_err-command_named-clause-nothing : goal.returns-in_err-command_named-clause-nothing
returns-in_err-command_named-clause-nothing c =
    if_none c.from_residual.result
    (no_command c.args.words.now c.get.result.now c.get.ensures
    c.in_err-command_named.ensures.none)
