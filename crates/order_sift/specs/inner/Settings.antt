-- What stays while a machine's order is sifted, and where it stands.
use Rattle.std.specs.Prelude.{◌≡◌, ℕ, ◌<◌, ◌≤◌, List, length}
use Rattle.polis_base.specs.declared.limits.TheConstants.{SIFTED_SNAPSHOTS_MAX}
use Rattle.domains.specs.Tables.{product}
use Rattle.transition_table.specs.declared.machine.Machine.{Machine}
use Rattle.transition_table.specs.Computed.{all_supports}
use Rattle.transition_table.specs.Orders.{Allowed}
use Rattle.transition_table.specs.Transitions.{IsDeterministic}
use Rattle.char_function.specs.Supported.{AreSupports}
use Rattle.order_sift.specs.declared.chain.Chain.{Chain}
use Rattle.order_sift.specs.declared.points.Points.{Points}
use Rattle.order_sift.specs.declared.sets.Known.{Known}
use Rattle.order_sift.specs.inner.Chains.{IsChain, MayStand}
use Rattle.order_sift.specs.inner.Known.{AreKnown}
use Rattle.order_sift.specs.inner.Pairs.{HasRoom}
use Rattle.order_sift.specs.inner.Points.{IsPrepared}
use Rattle.order_sift.specs.inner.Turns.{IsCounted}

-- a deterministic machine of few snapshots with its supports, and what levels are counted from
pub record IsSifting (m : Machine) (variables : List (List ℕ)) (points : Points) : Type 0 where
  pub sure : IsDeterministic m
  pub lists : variables ≡ all_supports m
  pub supports : AreSupports m variables
  pub few : product m.vars ≤ SIFTED_SNAPSHOTS_MAX
  pub prepared : IsPrepared m points

-- an allowed order with its size and what it leaves, and what is known of sets
pub record IsAt (m : Machine) (sets : Known) (order : List ℕ) (count : ℕ) (links : Chain) : Type 0
  where
    pub known : AreKnown m sets
    pub counted : IsCounted m order count
    pub chain : IsChain m order links

-- an allowed order of such a machine whose items may move, and what it leaves
pub record IsMoving (m : Machine) (points : Points) (order : List ℕ) (links : Chain) : Type 0 where
  pub sure : IsDeterministic m
  pub few : product m.vars ≤ SIFTED_SNAPSHOTS_MAX
  pub prepared : IsPrepared m points
  pub allowed : Allowed m order
  pub chain : IsChain m order links

-- room for pairs, and what is known of sets
pub record HasRoomAndSets (m : Machine) (seen : List ℕ) (sets : Known) : Type 0 where
  pub room : HasRoom (product m.vars) seen
  pub known : AreKnown m sets

-- the item of one place may stand at the places from one to another, and its own is one of them
pub record IsRange (m : Machine) (order : List ℕ) (own one other : ℕ) : Type 0 where
  pub first : one ≤ own
  pub i : own ≤ other
  pub last : other < length order
  pub places : MayStand m order own one other
