use Rattle.net_rules.proofs.OneNetwork.{one_network}
use Rattle.net_rules.proofs.Sentences.{sentences_have_values}
use Rattle.net_rules.proofs.worked.laws.Goals as goal

pub returns : goal.returns
returns c = record { one = one_network; values = sentences_have_values }
