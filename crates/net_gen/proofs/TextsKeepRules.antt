-- The network text of a seed breaks no rule, and its network is the seed's.
use Rattle.std.proofs.Common.{◌≡◌, None, sym, subst}
use Rattle.net_reader.specs.declared.raw.RawNet.{RawNet}
use Rattle.rule_judge.specs.Judged.{broken}
use Rattle.net_rules.specs.Networks.{IsNetworkOf}
use Rattle.net_gen.specs.Networks.{network}
use Rattle.net_gen.specs.Texts.{RulesIgnorePlaces, NetworksIgnorePlaces, TextsKeepRules, TextsHaveNetwork}
use Rattle.net_gen.proofs.SeedsKeepRules.{seeds_keep}
use Rattle.net_gen.proofs.UnplacedActs.{broken_alone, alone_broken}
use Rattle.net_gen.proofs.UnplacedNets.{network_alone, alone_network}

pub rules_ignore_places : RulesIgnorePlaces
rules_ignore_places raw = (broken_alone raw, alone_broken raw)

pub networks_ignore_places : NetworksIgnorePlaces
networks_ignore_places raw net = (alone_network raw net, network_alone raw net)

pub texts_keep_rules : TextsKeepRules
texts_keep_rules seed raw same =
    broken_alone raw
    (subst (λ (r : RawNet). broken r ≡ None) (sym same)
    (alone_broken (network seed) (seeds_keep seed)))

pub texts_have_network : TextsHaveNetwork
texts_have_network seed raw net same is =
    alone_network (network seed) net
    (subst (λ (r : RawNet). IsNetworkOf r net) same (network_alone raw net is))
