use Rattle.net_gen.proofs.NumberedNames.{machine_name}
use Rattle.net_gen.proofs.words.machine.Goals as goal

pub named-requires-clause-name : goal.named-requires-clause-name
named-requires-clause-name c = machine_name c.args.i c.requires
