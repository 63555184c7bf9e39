use Rattle.net_rules.proofs.IsSound.{sound}
use Rattle.net_rules.proofs.OneNetwork.{one_network}
use Rattle.net_rules.proofs.Sentences.{sentences_have_values}
use Rattle.net_rules.proofs.resolving.resolve_whole.Goals as goal

pub network_from-requires-clause-sound : goal.network_from-requires-clause-sound
network_from-requires-clause-sound c =
    sound c.args.raw c.in_ok-events.ensures.kept (sentences_have_values c.args.raw c.requires)

pub returns-clause-only : goal.returns-clause-only
returns-clause-only c = λ other h.
    one_network c.args.raw other c.in_ok-net.net h.1 c.in_ok-net.ensures
