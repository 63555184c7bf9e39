-- Which texts are a text of which network.
use Rattle.std.specs.Prelude.{◌≡◌, ℕ, List, None}
use Rattle.transition_table.specs.declared.network.Network.{Network}
use Rattle.net_reader.specs.declared.raw.RawNet.{RawNet}
use Rattle.net_reader.specs.Sentences.{HasNet}
use Rattle.rule_judge.specs.Judged.{broken}
use Rattle.net_rules.specs.Networks.{IsNetworkOf}

-- no rule is broken, and the network is the one that is declared
abbrev pub IsNetOf : RawNet → Network → Type 0
IsNetOf raw net = (broken raw ≡ None) × IsNetworkOf raw net

-- the bytes are a text of the network
abbrev pub NetOf : List ℕ → Network → Type 0
NetOf text net = (raw : RawNet) × HasNet text raw × IsNetOf raw net
