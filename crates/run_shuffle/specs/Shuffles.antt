-- The journal that is drawn from a seed.
use Rattle.std.specs.Prelude.{◌≡◌, ◌⊎◌, ℕ, zero, suc, ◌+◌, ◌-◌, ◌*◌, ◌/◌, ◌%◌, ◌^◌, ◌<◌, cond, nat_lt, List, [], ◌∷◌, ◌++◌, length, slice_get, unwrap_or, ⊤}
use Rattle.transition_table.specs.declared.network.Network.{Network}
use Rattle.journals.specs.declared.entry.Entry.{Entry}
use Rattle.journals.specs.declared.entry.Pick.{Pick}
use Rattle.journals.specs.declared.entry.Pick.TheVariants.{Stop}
use Rattle.journals.specs.declared.entry.TraceItem.{TraceItem}
use Rattle.journals.specs.Schedules.{IsPicked}
use Rattle.run_shuffle.specs.declared.order.Order.{Order}
use Rattle.run_shuffle.specs.declared.order.Order.TheVariants.{Mixed, Free as AllFree, Settled as AllSettled, Scheduled as AllScheduled}
use Rattle.run_shuffle.specs.declared.order.RunOrder.{RunOrder}
use Rattle.run_shuffle.specs.declared.order.RunOrder.TheVariants.{Free, Settled, Scheduled}
use Rattle.polis_base.specs.Draws.{draw, next}
use Rattle.run_shuffle.specs.Orders.{env_offered, network_offered, offered}

-- the number from which the pace is drawn: a first draw moves the seed, and an odd number that it
-- gives is multiplied with what it leaves, so that neighbouring seeds differ
abbrev pub stirred : ℕ → ℕ
stirred seed = next seed * (2 * draw seed (2 ^ 31) + 1) % 2 ^ 64

-- how often each move of the network counts
abbrev pub pace : ℕ → ℕ
pace seed = 2 ^ draw (stirred seed) 5

abbrev pub row_of_orders : ℕ → RunOrder
row_of_orders zero = Free
row_of_orders (suc zero) = Settled
row_of_orders (suc (suc k)) = Scheduled

-- the order of a run: a mixed one is drawn from x
abbrev pub order_from : Order → ℕ → RunOrder
order_from Mixed x = row_of_orders (draw x 3)
order_from AllFree x = Free
order_from AllSettled x = Settled
order_from AllScheduled x = Scheduled

-- the number that this leaves to draw from
abbrev pub after_order : Order → ℕ → ℕ
after_order Mixed x = next x
after_order AllFree x = x
after_order AllSettled x = x
after_order AllScheduled x = x

-- the order of the seed's run, which comes after the pace
abbrev pub run_order : Order → ℕ → RunOrder
run_order order seed = order_from order (next (stirred seed))

-- the number from which the first entry is drawn
abbrev pub first_draw : Order → ℕ → ℕ
first_draw order seed = after_order order (next (stirred seed))

-- the move of this number, and to stop where there is no such move
abbrev pub move_at : List Pick → ℕ → Pick
move_at moves k = unwrap_or (slice_get moves k) Stop

-- the move of this number, where each of the environment's counts once and each of the network's
-- so often as the pace says
abbrev pub chosen : List Pick → List Pick → ℕ → ℕ → Pick
chosen env network pace r =
    cond (nat_lt r (length env)) (move_at env r) (move_at network ((r - length env) / pace))

-- the move that a draw from x gives after the journal
abbrev pub drawn : Network → List TraceItem → RunOrder → ℕ → ℕ → List Entry → Pick
drawn net trace order pace x journal =
    let env : List Pick = env_offered order net trace journal in
    let network : List Pick = network_offered order net trace journal in
    chosen env network pace (draw x (length env + pace * length network))

-- after the journal each further entry is that of the move that is drawn, the first from x
abbrev pub IsDrawn : Network → List TraceItem → RunOrder → ℕ → ℕ → List Entry → List Entry → Type 0
IsDrawn net trace order pace x journal [] = ⊤
IsDrawn net trace order pace x journal (entry ∷ entries) =
    IsPicked net journal (drawn net trace order pace x journal) entry
    × IsDrawn net trace order pace (next x) (journal ++ entry ∷ []) entries

-- the journal of n entries, or of fewer after which nothing is offered, that is drawn from the seed
pub record IsShuffled (net : Network) (trace : List TraceItem) (seed : ℕ) (order : Order) (n : ℕ)
    (journal : List Entry) : Type 0 where
  pub drawn :
      IsDrawn net trace (run_order order seed) (pace seed) (first_draw order seed) [] journal
  pub whole :
      (length journal ≡ n)
      ⊎ ((length journal < n) × (offered (run_order order seed) net trace journal ≡ []))
