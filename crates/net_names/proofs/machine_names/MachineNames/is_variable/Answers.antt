use Rattle.std.proofs.Common.{◌∙◌}
use Rattle.net_names.proofs.machine_names.MachineNames.is_variable.Goals as goal

pub returns : goal.returns
returns c = c.has.ensures ∙ (λ i. c.args.self.now.variable_names i c.args.name)
