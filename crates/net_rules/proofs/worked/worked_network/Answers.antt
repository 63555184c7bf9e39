use Rattle.net_rules.proofs.GivenNetworks.{given}
use Rattle.net_rules.proofs.worked.worked_network.Goals as goal

pub returns-clause-belt : goal.returns-clause-belt
returns-clause-belt c = given.0

pub returns-clause-mix : goal.returns-clause-mix
returns-clause-mix c = given.1

pub returns-clause-echo : goal.returns-clause-echo
returns-clause-echo c = given.2
