use Rattle.net_reader.proofs.Shrinks.{domain_shrinks, event_shrinks, machine_shrinks}
use Rattle.net_reader.proofs.rules.net.Goals as goal

pub many-requires-clause-shrinks : goal.many-requires-clause-shrinks
many-requires-clause-shrinks c = domain_shrinks

pub many-requires-2-clause-shrinks : goal.many-requires-2-clause-shrinks
many-requires-2-clause-shrinks c = event_shrinks

pub some-requires-clause-shrinks : goal.some-requires-clause-shrinks
some-requires-clause-shrinks c = machine_shrinks _
