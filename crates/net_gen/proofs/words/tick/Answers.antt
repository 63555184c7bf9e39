use Rattle.net_gen.proofs.NumberedNames.{tick_name}
use Rattle.net_gen.proofs.words.tick.Goals as goal

pub named-requires-clause-name : goal.named-requires-clause-name
named-requires-clause-name c = tick_name c.args.i c.requires
