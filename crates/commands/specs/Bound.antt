-- What `bound` makes.
use Rattle.std.specs.Prelude.{◌≡◌, ℕ, List, length, slice_get, Some}
use Rattle.polis_base.specs.Host.{Files}
use Rattle.transition_table.specs.declared.machine.Machine.{Machine}
use Rattle.transition_table.specs.declared.network.Network.{Network}
use Rattle.task_code.specs.Listings.{Part}
use Rattle.cost_bound.specs.declared.bound.Range.{Range}
use Rattle.cost_bound.specs.declared.costs.Costs.{Costs}
use Rattle.cost_bound.specs.Bounds.{IsWorst, IsBest}
use Rattle.cost_bound.specs.Costs.{CostOf}
use Rattle.machine_compiler.specs.Parts.{IsRightPart}
use Rattle.polis_words.specs.declared.requests.costs.GivenCosts.{GivenCosts}
use Rattle.polis_words.specs.Bound.{BoundWords}
use Rattle.output_files.specs.declared.product.Product.{Product}
use Rattle.output_files.specs.Products.{shows_only}
use Rattle.input_files.specs.Inputs.{HoldsNet}
use Rattle.input_files.specs.declared.load.Detail.TheVariants as details
use Rattle.commands.specs.Meanings.{Meaning, net_meaning}
use Rattle.commands.specs.Ranges.{ranges_text}

-- the greatest and the least cost of code that the machine was rightly compiled to
pub record IsRange (costs : Costs) (m : Machine) (range : Range) : Type 0 where
  pub part : Part
  pub right : IsRightPart m part
  pub most : IsWorst m (CostOf costs part.code) range.most
  pub least : IsBest m (CostOf costs part.code) range.least

-- one for each machine, in order
pub record AreRanges (costs : Costs) (net : Network) (ranges : List Range) : Type 0 where
  pub long : length ranges ≡ length net.machines
  pub each :
      (k : ℕ) (m : Machine) (range : Range)
      → slice_get net.machines k ≡ Some m
      → slice_get ranges k ≡ Some range
      → IsRange costs m range

-- the costs that are asked for
pub record AreCosts (given : GivenCosts) (costs : Costs) : Type 0 where
  pub test : costs.test ≡ given.test
  pub set : costs.set ≡ given.set
  pub jump : costs.jump ≡ given.jump
  pub halt : costs.halt ≡ given.halt

-- the product saves nothing, and shows a line for each machine
abbrev pub bound_product : Network → List Range → Product
bound_product net ranges = shows_only (ranges_text net ranges)

-- the file holds a network that is accepted, these are the ranges of its machines at the costs that
-- are asked for, and the product is that of these
pub record MakesBound (bound : BoundWords) (files : Files) (product : Product) : Type 0 where
  pub net : Network
  pub holds_net : HoldsNet files bound.net net
  pub costs : Costs
  pub asked : AreCosts bound.costs costs
  pub ranges : List Range
  pub are : AreRanges costs net ranges
  pub made : product ≡ bound_product net ranges

abbrev pub bound_meaning : BoundWords → Meaning
bound_meaning bound = net_meaning details.Cause bound.net (MakesBound bound)
