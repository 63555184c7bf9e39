-- What `bound` shows, from the ranges of the machines.
use Rattle.std.specs.Prelude.{◌≡◌, ℕ, List, ◌++◌}
use Rattle.transition_table.specs.declared.machine.Machine.{Machine}
use Rattle.transition_table.specs.declared.network.Network.{Network}
use Rattle.cost_bound.specs.declared.bound.Range.{Range}
use Rattle.cost_bound.specs.declared.costs.Costs.{Costs}
use Rattle.commands.specs.Bound.{AreRanges, IsRange}
use Rattle.commands.specs.Ranges.{range_line, ranges_text}

-- the text has a line for each machine
pub record ShowsRanges (costs : Costs) (net : Network) (text : List ℕ) : Type 0 where
  pub ranges : List Range
  pub are : AreRanges costs net ranges
  pub shown : text ≡ ranges_text net ranges

-- the line of a machine's range is added
pub record AddsRange (costs : Costs) (net : Network) (m : Machine) (old new : List ℕ) :
    Type 0 where
  pub range : Range
  pub is : IsRange costs m range
  pub added : new ≡ old ++ range_line net m range
