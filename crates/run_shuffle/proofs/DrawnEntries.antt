-- The entries that drawn moves make, by computation: where these are the entries of a journal, it is
-- the one that is drawn.
use Rattle.std.proofs.Common.{◌≡◌, ◌⊎◌, ℕ, ◌<◌, List, [], ◌∷◌, ◌++◌, length, Option, Some, map}
use Rattle.transition_table.specs.declared.network.Network.{Network}
use Rattle.journals.specs.declared.entry.Entry.{Entry}
use Rattle.journals.specs.declared.entry.TraceItem.{TraceItem}
use Rattle.journals.proofs.PickedEntries.{entry_of, made_is_picked, parts_of}
use Rattle.polis_base.specs.Draws.{next}
use Rattle.run_shuffle.specs.declared.order.Order.{Order}
use Rattle.run_shuffle.specs.declared.order.RunOrder.{RunOrder}
use Rattle.run_shuffle.specs.Orders.{offered}
use Rattle.run_shuffle.specs.Shuffles.{IsDrawn, IsShuffled, drawn, first_draw, pace, run_order}

-- what is drawn after the journal and each of these entries before the last makes
abbrev pub made_from : Network → List TraceItem → RunOrder → ℕ → ℕ → List Entry → List Entry
    → List (Option Entry)
made_from net trace order pace x journal [] = []
made_from net trace order pace x journal (entry ∷ entries) =
    entry_of net journal (drawn net trace order pace x journal)
    ∷ made_from net trace order pace (next x) (journal ++ entry ∷ []) entries

drawn_by_made : (net : Network) (trace : List TraceItem) (order : RunOrder) (pace x : ℕ)
    (journal entries : List Entry)
    → made_from net trace order pace x journal entries ≡ map Some entries
    → IsDrawn net trace order pace x journal entries
drawn_by_made net trace order pace x journal [] h = tt
drawn_by_made net trace order pace x journal (entry ∷ entries) h =
    let parts = parts_of h in (
      made_is_picked net journal (drawn net trace order pace x journal) entry parts.0,
      drawn_by_made net trace order pace (next x) (journal ++ entry ∷ []) entries parts.1,
    )

pub shuffled : {net : Network} {trace : List TraceItem} {seed : ℕ} {order : Order} {n : ℕ}
    {journal : List Entry}
    → made_from net trace (run_order order seed) (pace seed) (first_draw order seed) [] journal
    ≡ map Some journal
    → ((length journal ≡ n)
    ⊎ ((length journal < n) × (offered (run_order order seed) net trace journal ≡ [])))
    → IsShuffled net trace seed order n journal
shuffled {net} {trace} {seed} {order} {n} {journal} made whole = record {
  drawn =
      drawn_by_made net trace (run_order order seed) (pace seed) (first_draw order seed) [] journal
      made;
  whole = whole;
}
