-- A run with one more draw.
use Rattle.std.proofs.Common.{◌≡◌, ◌⊎◌, ◌↔◌, ℕ, ◌<◌, Bool, IsTrue, List, [], ◌∷◌, ◌++◌, length, sym, ap, ◌∙◌, subst, append_assoc}
use Rattle.std.proofs.lemmas.List.{append-nil}
use Rattle.transition_table.specs.declared.network.Network.{Network}
use Rattle.journals.specs.declared.entry.Entry.{Entry}
use Rattle.journals.specs.declared.entry.TraceItem.{TraceItem}
use Rattle.journals.specs.Legality.{Complete, Legal}
use Rattle.journals.specs.Schedules.{IsPicked}
use Rattle.run_shuffle.specs.declared.order.Order.{Order}
use Rattle.run_shuffle.specs.declared.order.RunOrder.{RunOrder}
use Rattle.run_shuffle.specs.Orders.{offered}
use Rattle.polis_base.specs.Draws.{after, next}
use Rattle.polis_base.proofs.DrawsAfter.{after_next, after_none}
use Rattle.run_shuffle.specs.Shuffles.{IsDrawn, IsShuffled, drawn, first_draw, pace, run_order}
use Rattle.run_shuffle.specs.inner.Runs.{IsNext}
use Rattle.net_core.specs.Moments.{Moment}

-- one entry more that is drawn
pub drawn_more : (net : Network) (trace : List TraceItem) (order : RunOrder) (pace x : ℕ)
    (journal entries : List Entry) (entry : Entry)
    → IsDrawn net trace order pace x journal entries
    → IsPicked net (journal ++ entries)
    (drawn net trace order pace (after x (length entries)) (journal ++ entries)) entry
    → IsDrawn net trace order pace x journal (entries ++ entry ∷ [])
drawn_more net trace order pace x journal [] entry h is = (
  subst (λ j. IsPicked net j (drawn net trace order pace x j) entry) (append-nil journal)
      (subst (λ k. IsPicked net (journal ++ []) (drawn net trace order pace k (journal ++ [])) entry)
      (after_none x) is),
  tt,
)
drawn_more net trace order pace x journal (first ∷ entries) entry h is = (
  h.0,
  drawn_more net trace order pace (next x) (journal ++ first ∷ []) entries entry h.1
      (subst
      (λ j. IsPicked net j (drawn net trace order pace (after (next x) (length entries)) j) entry)
      (sym (append_assoc journal (first ∷ []) entries))
      (subst
      (λ k. IsPicked net (journal ++ first ∷ entries)
      (drawn net trace order pace k (journal ++ first ∷ entries)) entry)
      (sym (after_next x (length entries))) is)),
)

pub drawn_further : (old mid new : Moment) (order : RunOrder) (pace x y count : ℕ)
    → mid.net ≡ old.net → mid.trace ≡ old.trace
    → IsDrawn old.net old.trace order pace x [] mid.journal
    → y ≡ after x count → length mid.journal ≡ count
    → IsNext order pace y mid new
    → IsDrawn old.net old.trace order pace x [] new.journal
drawn_further old mid new order pace x y count net trace so_far at long (entry, is, picked) =
    let by_net =
    subst
    (λ (n : Network). IsPicked n mid.journal (drawn n mid.trace order pace y mid.journal) entry) net
    picked in
    let by_trace =
    subst
    (λ (t : List TraceItem). IsPicked old.net mid.journal
    (drawn old.net t order pace y mid.journal) entry) trace by_net in
    let by_draw =
    subst
    (λ (k : ℕ). IsPicked old.net mid.journal (drawn old.net old.trace order pace k mid.journal)
    entry) (at ∙ ap (after x) (sym long)) by_trace in
    subst (λ (l : List Entry). IsDrawn old.net old.trace order pace x [] l)
    (sym (ap (λ (m : Moment). m.journal) is))
    (drawn_more old.net old.trace order pace x [] mid.journal entry so_far by_draw)

-- what is drawn with a seed's order, pace and first draw is shuffled
pub shuffled_by : (net : Network) (trace : List TraceItem) (seed : ℕ) (order : Order) (n : ℕ)
    (journal : List Entry) (own : RunOrder) (p x : ℕ) → own ≡ run_order order seed
    → p ≡ pace seed → x ≡ first_draw order seed → IsDrawn net trace own p x [] journal
    → ((length journal ≡ n) ⊎ ((length journal < n) × (offered own net trace journal ≡ [])))
    → IsShuffled net trace seed order n journal
shuffled_by net trace seed order n journal own p x by_order by_pace by_draw is whole = record {
  drawn =
      subst (λ k. IsDrawn net trace (run_order order seed) (pace seed) k [] journal) by_draw
      (subst (λ k. IsDrawn net trace (run_order order seed) k x [] journal) by_pace
      (subst (λ o. IsDrawn net trace o p x [] journal) by_order is));
  whole =
      subst
      (λ o. (length journal ≡ n) ⊎ ((length journal < n) × (offered o net trace journal ≡ [])))
      by_order whole;
}

-- ---- the run as a whole

-- the moment has this network and this trace, and its journal is the one that is handed out
pub record IsEnd (net : Network) (trace : List TraceItem) (start last : Moment)
    (journal : List Entry) : Type 0 where
  pub begun : start ≡ record { net = net; trace = trace; journal = [] }
  pub net_stays : last.net ≡ start.net
  pub trace_stays : last.trace ≡ start.trace
  pub handed : journal ≡ last.journal

own_net : (net : Network) (trace : List TraceItem) (start last : Moment) (journal : List Entry)
    → IsEnd net trace start last journal → last.net ≡ net
own_net net trace start last journal is =
    is.net_stays ∙ ap (λ (m : Moment). m.net) is.begun

own_trace : (net : Network) (trace : List TraceItem) (start last : Moment) (journal : List Entry)
    → IsEnd net trace start last journal → last.trace ≡ trace
own_trace net trace start last journal is =
    is.trace_stays ∙ ap (λ (m : Moment). m.trace) is.begun

pub end_is_shuffled : (net : Network) (trace : List TraceItem) (seed : ℕ) (order : Order) (n : ℕ)
    (start last : Moment) (journal : List Entry) (own : RunOrder) (p x : ℕ)
    → IsEnd net trace start last journal → own ≡ run_order order seed → p ≡ pace seed
    → x ≡ first_draw order seed
    → IsDrawn start.net start.trace own p x [] last.journal
    → ((length last.journal ≡ n)
    ⊎ ((length last.journal < n) × (offered own start.net start.trace last.journal ≡ [])))
    → IsShuffled net trace seed order n journal
end_is_shuffled net trace seed order n start last journal own p x is by_order by_pace by_draw drawn whole =
    subst (λ (l : List Entry). IsShuffled net trace seed order n l) (sym is.handed)
    (shuffled_by net trace seed order n last.journal own p x by_order by_pace by_draw
    (subst (λ (m : Moment). IsDrawn m.net m.trace own p x [] last.journal) is.begun drawn)
    (subst
    (λ (m : Moment). (length last.journal ≡ n)
    ⊎ ((length last.journal < n) × (offered own m.net m.trace last.journal ≡ []))) is.begun whole))

pub end_is_legal : (net : Network) (trace : List TraceItem) (start last : Moment)
    (journal : List Entry) → IsEnd net trace start last journal
    → Legal last.net last.trace journal → Legal net trace journal
end_is_legal net trace start last journal is legal =
    subst (λ (t : List TraceItem). Legal net t journal) (own_trace net trace start last journal is)
    (subst (λ (n : Network). Legal n last.trace journal) (own_net net trace start last journal is)
    legal)

pub end_is_complete : (net : Network) (trace : List TraceItem) (start last : Moment)
    (journal : List Entry) (complete : Bool) → IsEnd net trace start last journal
    → (IsTrue complete ↔ Complete last.net last.trace last.journal)
    → IsTrue complete ↔ Complete net trace journal
end_is_complete net trace start last journal complete is told =
    subst (λ (l : List Entry). IsTrue complete ↔ Complete net trace l) (sym is.handed)
    (subst (λ (t : List TraceItem). IsTrue complete ↔ Complete net t last.journal)
    (own_trace net trace start last journal is)
    (subst (λ (n : Network). IsTrue complete ↔ Complete n last.trace last.journal)
    (own_net net trace start last journal is) told))
