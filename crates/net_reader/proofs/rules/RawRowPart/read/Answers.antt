use Rattle.net_reader.proofs.Shrinks.{cond_shrinks}
use Rattle.net_reader.proofs.rules.RawRowPart.read.Goals as goal

pub listed-requires : goal.listed-requires
listed-requires c = cond_shrinks
