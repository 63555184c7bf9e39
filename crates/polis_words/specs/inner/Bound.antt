-- The costs of a command line, by their places.
use Rattle.std.specs.Prelude.{◌≡◌, ℕ, List, slice_get, Some, decimal}
use Rattle.polis_words.specs.declared.requests.costs.GivenCosts.{GivenCosts}
use Rattle.polis_words.specs.Bound.{AreFew}

-- the third word and the three after it give the costs in decimal
pub record AreCostsAt (words : List (List ℕ)) (costs : GivenCosts) : Type 0 where
  pub test : slice_get words 2 ≡ Some (decimal costs.test)
  pub set : slice_get words 3 ≡ Some (decimal costs.set)
  pub jump : slice_get words 4 ≡ Some (decimal costs.jump)
  pub halt : slice_get words 5 ≡ Some (decimal costs.halt)
  pub few : AreFew costs
