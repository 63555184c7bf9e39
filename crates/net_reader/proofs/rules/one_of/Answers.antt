use Rattle.net_reader.proofs.Shrinks.{value_shrinks}
use Rattle.net_reader.proofs.rules.one_of.Goals as goal

pub listed-requires : goal.listed-requires
listed-requires c = value_shrinks
