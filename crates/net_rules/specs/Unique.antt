-- That declarations give one network.
use Rattle.std.specs.Prelude.{◌≡◌, None}
use Rattle.transition_table.specs.declared.network.Network.{Network}
use Rattle.net_reader.specs.declared.raw.RawNet.{RawNet}
use Rattle.net_reader.specs.Layout.{IsOfSentence}
use Rattle.rule_judge.specs.Judged.{broken}
use Rattle.net_rules.specs.Networks.{IsNetworkOf}

-- declarations give no two networks
abbrev pub OneNetwork : Type 0
OneNetwork = (raw : RawNet) (a b : Network) → IsNetworkOf raw a → IsNetworkOf raw b → a ≡ b

-- and those of a sentence give one where they break no rule
abbrev pub SomeNetwork : Type 0
SomeNetwork = (raw : RawNet) → IsOfSentence raw → broken raw ≡ None
    → (net : Network) × IsNetworkOf raw net
