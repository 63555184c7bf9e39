use Rattle.net_reader.proofs.Shrinks.{row_shrinks, state_shrinks, word_shrinks}
use Rattle.net_reader.proofs.rules.body.Goals as goal

pub listed-requires : goal.listed-requires
listed-requires c = word_shrinks

pub many-requires-clause-shrinks : goal.many-requires-clause-shrinks
many-requires-clause-shrinks c = state_shrinks

pub many-requires-2-clause-shrinks : goal.many-requires-2-clause-shrinks
many-requires-2-clause-shrinks c = row_shrinks c.args.version
