use Rattle.std.proofs.Common.{◌∙◌, ◌+◌, ◌==◌, ap, unwrap_or, option_copied}
use Rattle.std.specs.Option.{option_and_then}
use Rattle.std.specs.List.{list_any}
use Rattle.net_names.specs.Values.{value_in}
use Rattle.net_rules.proofs.Variables.{var_few, var_codes}
use Rattle.net_rules.proofs.row_list.named_codes.Goals as goal

pub value_codes-requires-clause-count : goal.value_codes-requires-clause-count
value_codes-requires-clause-count c =
    var_few c.args.names.now.scope.now.raw.now c.args.names.now.machine.now c.args.name
    c.args.var.now c.requires.sound c.requires.var

pub returns : goal.returns
returns c = λ k.
    c.value_codes.ensures k
    ∙ ap (λ n. list_any
    (λ v. k == n + unwrap_or
    (option_and_then (λ s. value_in s v) (option_copied c.args.var.now.shape)) 0)
    c.args.values.now) c.first_code.ensures.first
    ∙ var_codes c.args.names.now.scope.now.raw.now c.args.names.now.machine.now c.args.name
    c.args.var.now c.args.values.now k c.requires.var
