use Rattle.net_gen.proofs.NumberedNames.{valued_name}
use Rattle.net_gen.proofs.words.valued.Goals as goal

pub named-requires-clause-name : goal.named-requires-clause-name
named-requires-clause-name c = valued_name c.args.i c.requires
