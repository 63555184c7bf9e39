-- Laws of moves, orders and shuffled journals.
use Rattle.std.specs.Prelude.{◌≡◌, ◌↔◌, ℕ, ◌<◌, ◌≤◌, List, [], ◌∷◌, ◌++◌, length}
use Rattle.std.specs.List.{Contains}
use Rattle.polis_base.specs.Lists.{Begins}
use Rattle.transition_table.specs.Transitions.{AreDeterministic}
use Rattle.transition_table.specs.declared.network.Network.{Network}
use Rattle.journals.specs.declared.entry.Entry.{Entry}
use Rattle.journals.specs.declared.entry.Pick.{Pick}
use Rattle.journals.specs.declared.entry.TraceItem.{TraceItem}
use Rattle.journals.specs.Journals.{FitsNetwork, IsTrace}
use Rattle.journals.specs.Legality.{Legal, Complete, MayFollow}
use Rattle.run_shuffle.specs.declared.order.Order.{Order}
use Rattle.run_shuffle.specs.declared.order.RunOrder.{RunOrder}
use Rattle.run_shuffle.specs.declared.order.RunOrder.TheVariants.{Settled, Scheduled}
use Rattle.run_shuffle.specs.Moves.{IsOneOf, all_moves}
use Rattle.run_shuffle.specs.Orders.{offered}
use Rattle.run_shuffle.specs.Shuffles.{IsShuffled}

-- after a legal journal an entry that fits the network may come exactly where it is that of one of
-- the environment's or the network's moves
abbrev pub AllMoves : Type 0
AllMoves =
    (net : Network) (trace : List TraceItem) (journal : List Entry) (entry : Entry)
    → Legal net trace journal
    → FitsNetwork net entry
    → Legal net trace (journal ++ entry ∷ [])
    ↔ IsOneOf net journal (all_moves net trace journal) entry

-- what is offered under `scheduled` is offered under `settled`
abbrev pub ScheduledIsSettled : Type 0
ScheduledIsSettled =
    (net : Network) (trace : List TraceItem) (journal : List Entry) (move : Pick)
    → IsTrace net trace
    → Legal net trace journal
    → Contains (offered Scheduled net trace journal) move
    → Contains (offered Settled net trace journal) move

-- and that under `free`, which offers all moves
abbrev pub SettledIsFree : Type 0
SettledIsFree =
    (net : Network) (trace : List TraceItem) (journal : List Entry) (move : Pick)
    → Contains (offered Settled net trace journal) move
    → Contains (all_moves net trace journal) move

-- each order offers something exactly until the journal is complete
abbrev pub OffersUntilComplete : Type 0
OffersUntilComplete =
    (net : Network) (trace : List TraceItem) (journal : List Entry) (order : RunOrder)
    → IsTrace net trace
    → Legal net trace journal
    → (offered order net trace journal ≡ []) ↔ Complete net trace journal

-- what is offered fits the network and may come
abbrev pub OfferedMayCome : Type 0
OfferedMayCome =
    (net : Network) (trace : List TraceItem) (journal : List Entry) (order : RunOrder)
    (entry : Entry)
    → IsTrace net trace
    → Legal net trace journal
    → IsOneOf net journal (offered order net trace journal) entry
    → FitsNetwork net entry × MayFollow net trace journal entry

-- a shuffled journal is legal
abbrev pub ShuffledIsLegal : Type 0
ShuffledIsLegal =
    (net : Network) (trace : List TraceItem) (seed : ℕ) (order : Order) (n : ℕ)
    (journal : List Entry)
    → IsTrace net trace
    → IsShuffled net trace seed order n journal
    → Legal net trace journal

-- and where it has fewer than n entries it is complete
abbrev pub FewerIsComplete : Type 0
FewerIsComplete =
    (net : Network) (trace : List TraceItem) (seed : ℕ) (order : Order) (n : ℕ)
    (journal : List Entry)
    → IsTrace net trace
    → IsShuffled net trace seed order n journal
    → length journal < n
    → Complete net trace journal

-- a deterministic network has one at most
abbrev pub OneShuffle : Type 0
OneShuffle =
    (net : Network) (trace : List TraceItem) (seed : ℕ) (order : Order) (n : ℕ)
    (j k : List Entry)
    → AreDeterministic net
    → IsTrace net trace
    → IsShuffled net trace seed order n j
    → IsShuffled net trace seed order n k
    → j ≡ k

-- each network has one
abbrev pub SomeShuffle : Type 0
SomeShuffle =
    (net : Network) (trace : List TraceItem) (seed : ℕ) (order : Order) (n : ℕ)
    → IsTrace net trace
    → (journal : List Entry) × IsShuffled net trace seed order n journal

-- that of fewer entries is how that of more begins
abbrev pub FewerBeginMore : Type 0
FewerBeginMore =
    (net : Network) (trace : List TraceItem) (seed : ℕ) (order : Order) (n k : ℕ)
    (journal longer : List Entry)
    → AreDeterministic net
    → IsTrace net trace
    → n ≤ k
    → IsShuffled net trace seed order n journal
    → IsShuffled net trace seed order k longer
    → Begins journal longer

-- What follows from the definitions.
pub record ShuffleLaws : Type 0 where
  pub all_moves : AllMoves
  pub scheduled_is_settled : ScheduledIsSettled
  pub settled_is_free : SettledIsFree
  pub until_complete : OffersUntilComplete
  pub may_come : OfferedMayCome
  pub legal : ShuffledIsLegal
  pub complete : FewerIsComplete
  pub one : OneShuffle
  pub some : SomeShuffle
  pub begin : FewerBeginMore
