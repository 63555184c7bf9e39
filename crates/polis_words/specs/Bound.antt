-- The command lines `bound NET` and `bound NET T S G H`.
use Rattle.std.specs.Prelude.{◌≡◌, ◌⊎◌, ℕ, ◌≤◌, List, [], ◌∷◌, codes, decimal}
use Rattle.polis_base.specs.declared.limits.TheConstants.{COST_MAX}
use Rattle.polis_words.specs.declared.requests.costs.GivenCosts.{GivenCosts}
use Rattle.polis_words.specs.FileWords.{IsFileWord}

-- what bounds are asked for: the name of the file, and what the instructions cost
pub record BoundWords : Type 0 where
  pub net : List ℕ
  pub costs : GivenCosts

-- each instruction costs 1
abbrev pub one_each : GivenCosts
one_each = record { test = 1; set = 1; jump = 1; halt = 1 }

-- each cost is at most 1,000,000
pub record AreFew (costs : GivenCosts) : Type 0 where
  pub test : costs.test ≤ COST_MAX
  pub set : costs.set ≤ COST_MAX
  pub jump : costs.jump ≤ COST_MAX
  pub halt : costs.halt ≤ COST_MAX

-- the words after the file: none, where each instruction costs 1, or the costs of a test, a set, a
-- jump and a halt in decimal
abbrev pub GiveCosts : List (List ℕ) → GivenCosts → Type 0
GiveCosts words costs =
    ((words ≡ []) × (costs ≡ one_each))
    ⊎ ((words
    ≡ decimal costs.test ∷ decimal costs.set ∷ decimal costs.jump ∷ decimal costs.halt ∷ [])
    × AreFew costs)

-- the command line asks for these bounds
pub record AsksBound (words : List (List ℕ)) (bound : BoundWords) : Type 0 where
  pub given : List (List ℕ)
  pub form : words ≡ codes "bound" ∷ bound.net ∷ given
  pub costs : GiveCosts given bound.costs
  pub net : IsFileWord bound.net
