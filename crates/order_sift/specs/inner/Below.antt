-- The laws of the crates below that are used, in one record.
use Rattle.domains.specs.AllCodes.{CountsAll, StandsAtRank, StandsOnce, ListsFit, ListsAll}
use Rattle.domains.specs.Orders.{HavePlaces, OnePlace}
use Rattle.domains.specs.Tables.{RanksBelow}
use Rattle.transition_table.specs.Laws.{ResultsFit, SameOnSupport, SupportByTest}
use Rattle.decision_diagram.specs.Laws.{SizeBySets}

pub record Below : Type 0 where
  pub counts_all : CountsAll
  pub stands_at_rank : StandsAtRank
  pub stands_once : StandsOnce
  pub lists_fit : ListsFit
  pub lists_all : ListsAll
  pub ranks_below : RanksBelow
  pub results_fit : ResultsFit
  pub same_on_support : SameOnSupport

-- and those that orders and their levels rest on
pub record BelowOrders : Type 0 where
  pub have_places : HavePlaces
  pub one_place : OnePlace
  pub support_by_test : SupportByTest
  pub size_by_sets : SizeBySets
