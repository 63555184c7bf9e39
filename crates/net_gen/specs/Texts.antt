-- What the network text of a seed keeps, whatever its places are.
use Rattle.std.specs.Prelude.{◌≡◌, ◌↔◌, ℕ, None}
use Rattle.transition_table.specs.declared.network.Network.{Network}
use Rattle.net_reader.specs.declared.raw.RawNet.{RawNet}
use Rattle.net_reader.specs.Places.{without_places}
use Rattle.rule_judge.specs.Judged.{broken}
use Rattle.net_rules.specs.Networks.{IsNetworkOf}
use Rattle.net_gen.specs.Networks.{network}

-- places decide which place of a broken rule is shown, and not whether one is broken
abbrev pub RulesIgnorePlaces : Type 0
RulesIgnorePlaces = (raw : RawNet) → (broken (without_places raw) ≡ None) ↔ (broken raw ≡ None)

-- nor which network is declared
abbrev pub NetworksIgnorePlaces : Type 0
NetworksIgnorePlaces =
    (raw : RawNet) (net : Network) → IsNetworkOf (without_places raw) net ↔ IsNetworkOf raw net

-- the declarations are those of the seed, places aside
abbrev pub IsSeeds : ℕ → RawNet → Type 0
IsSeeds seed raw = without_places raw ≡ without_places (network seed)

-- they break no rule
abbrev pub TextsKeepRules : Type 0
TextsKeepRules = (seed : ℕ) (raw : RawNet) → IsSeeds seed raw → broken raw ≡ None

-- and the network that they give is the one of the seed
abbrev pub TextsHaveNetwork : Type 0
TextsHaveNetwork =
    (seed : ℕ) (raw : RawNet) (net : Network) → IsSeeds seed raw → IsNetworkOf raw net
    → IsNetworkOf (network seed) net
