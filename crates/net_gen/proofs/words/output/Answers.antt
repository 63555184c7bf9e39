use Rattle.net_gen.proofs.NumberedNames.{output_name}
use Rattle.net_gen.proofs.words.output.Goals as goal

pub named-requires-clause-name : goal.named-requires-clause-name
named-requires-clause-name c = output_name c.args.i c.requires
