use Rattle.net_rules.proofs.IsSound.{sound}
use Rattle.net_rules.proofs.OneNetwork.{one_network}
use Rattle.net_rules.proofs.Sentences.{sentences_have_values}
use Rattle.net_rules.proofs.resolving.resolve.Goals as goal

pub network_of-requires-clause-sound : goal.network_of-requires-clause-sound
network_of-requires-clause-sound c =
    sound c.args.raw.now c.in_ok-events.ensures.kept
    (sentences_have_values c.args.raw.now c.requires)

pub returns-clause-only : goal.returns-clause-only
returns-clause-only c = λ other h.
    one_network c.args.raw.now other c.in_ok-net.net h.1 c.in_ok-net.ensures
