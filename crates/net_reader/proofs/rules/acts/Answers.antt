use Rattle.net_reader.proofs.Shrinks.{act_shrinks}
use Rattle.net_reader.proofs.rules.acts.Goals as goal

pub listed-requires : goal.listed-requires
listed-requires c = act_shrinks c.args.version
