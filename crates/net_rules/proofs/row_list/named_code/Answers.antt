use Rattle.std.proofs.Common.{◌∙◌, ◌+◌}
use Rattle.net_rules.proofs.Variables.{var_few, var_code}
use Rattle.net_rules.proofs.row_list.named_code.Goals as goal

pub shape_number-requires : goal.shape_number-requires
shape_number-requires c =
    var_few c.args.names.now.scope.now.raw.now c.args.names.now.machine.now c.args.name
    c.args.var.now c.requires.sound c.requires.var

pub returns-clause-code : goal.returns-clause-code
returns-clause-code c = (λ i. c.first_code.ensures.first i + c.shape_number.ensures.number i)
    ∙ var_code c.args.names.now.scope.now.raw.now c.args.names.now.machine.now c.args.name
    c.args.var.now c.args.value.now c.requires.var
