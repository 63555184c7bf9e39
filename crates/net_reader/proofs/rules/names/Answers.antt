use Rattle.net_reader.proofs.Shrinks.{word_shrinks}
use Rattle.net_reader.proofs.rules.names.Goals as goal

pub listed-requires : goal.listed-requires
listed-requires c = word_shrinks
