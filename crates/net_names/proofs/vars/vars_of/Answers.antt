use Rattle.std.proofs.Common.{◌∙◌}
use Rattle.net_names.specs.Vars.{AreVars}
use Rattle.net_names.proofs.IfOk.{IfOk_moved}
use Rattle.net_names.proofs.vars.vars_of.Goals as goal

pub returns : goal.returns
returns c = IfOk_moved c.vars_each.result
    (AreVars c.args.names.now.scope.now.raw.now c.args.names.now.machine.now) _ _
    (c.as_slice.ensures ∙ c.in_ok-words.ensures) c.vars_each.ensures
