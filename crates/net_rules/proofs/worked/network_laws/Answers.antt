use Rattle.net_rules.proofs.SomeNetwork.{some_network}
use Rattle.net_rules.proofs.worked.network_laws.Goals as goal

pub returns : goal.returns
returns c = record { some = some_network }
