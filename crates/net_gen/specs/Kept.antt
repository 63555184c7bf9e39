-- That the declarations of a seed break no rule.
use Rattle.std.specs.Prelude.{◌≡◌, ℕ, None}
use Rattle.rule_judge.specs.Judged.{broken}
use Rattle.net_gen.specs.Networks.{network}

-- the declarations of each seed break no rule of network texts
abbrev pub SeedsKeepRules : Type 0
SeedsKeepRules = (seed : ℕ) → broken (network seed) ≡ None
