use Rattle.std.proofs.Common.{◌∙◌}
use Rattle.net_names.proofs.machine_names.MachineNames.is_state.Goals as goal

pub returns : goal.returns
returns c = c.has.ensures ∙ (λ i. c.args.self.now.state_names i c.args.name)
