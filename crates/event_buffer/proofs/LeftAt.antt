-- The environment's deliveries that are left.
use Rattle.std.specs.Prelude.{◌≡◌, ℕ, zero, suc, ◌+◌, ◌<◌, ◌≤◌, Bool, true, false, List, [], ◌∷◌, ◌++◌, map, drop, length, slice_get, Option, Some, option_map, IfSome}
use Rattle.std.proofs.Common.{refl, sym, ap, ◌∙◌, subst, arith, inl, inr}
use Rattle.std.proofs.lemmas.List.{map-append}
use Rattle.std.proofs.lemmas.Option.{slice_get_cases, slice_get_past}
use Rattle.std.proofs.lemmas.Bool.{and_parts}
use Rattle.polis_base.specs.Lists.{head_of}
use Rattle.transition_table.specs.declared.decl.Party.TheVariants.{Env}
use Rattle.transition_table.specs.declared.network.Network.{Network}
use Rattle.journals.specs.declared.entry.Owed.{Owed}
use Rattle.journals.specs.declared.entry.TraceItem.{TraceItem}
use Rattle.journals.specs.declared.entry.TraceItem.TheVariants.{Event, Settle}
use Rattle.journals.specs.Journals.{is_event_code, is_trace_item}
use Rattle.journals.specs.Laws.{EnvMayArrive}
use Rattle.journals.specs.Schedules.{deliveries_of, trace_deliveries, item_deliveries}
use Rattle.event_buffer.specs.declared.arrival.Arrival.{Arrival}
use Rattle.event_buffer.specs.Arrivals.{is_arrival, are_arrivals, arrival_of}
use Rattle.event_buffer.specs.Feeds.{all_deliveries, deliveries_at, left_at, IsNext}
use Rattle.event_buffer.proofs.LastReaction.{all_arrive}
use Rattle.event_buffer.proofs.Lists.{drop_at, drop_of_joined, head_of_joined, nothing_left}
use Rattle.polis_base.proofs.Places.{drop_past}

-- ---- all of them

without_tests :
    (settled : Bool) (ds : List Owed)
    → map (λ (p : Owed × Bool). p.0) (map (λ (d : Owed). (d, settled)) ds) ≡ ds
without_tests settled [] = refl
without_tests settled (d ∷ ds) = ap (λ l. d ∷ l) (without_tests settled ds)

-- those that the trace gives
pub given_by_trace :
    (net : Network) (settled : Bool) (items : List TraceItem)
    → map (λ (p : Owed × Bool). p.0) (trace_deliveries net settled items)
    ≡ all_deliveries net items
given_by_trace net settled [] = refl
given_by_trace net settled (Settle ∷ items) = given_by_trace net true items
given_by_trace net settled (Event e code ∷ items) =
    let here : List Owed = deliveries_of net Env (e, code) in
    map-append (λ (p : Owed × Bool). p.0) (map (λ (d : Owed). (d, settled)) here)
    (trace_deliveries net false items)
    ∙ ap (λ l. l ++ map (λ (p : Owed × Bool). p.0) (trace_deliveries net false items))
    (without_tests settled here)
    ∙ ap (λ l. here ++ l) (given_by_trace net false items)

suc_is : (n : ℕ) → suc n ≡ n + 1
suc_is n = omega arith

-- from an item on there are its deliveries and those of the items after it
all_from :
    (net : Network) (trace : List TraceItem) (i : ℕ) (item : TraceItem)
    → slice_get trace i ≡ Some item
    → all_deliveries net (drop i trace)
    ≡ item_deliveries net item ++ all_deliveries net (drop (i + 1) trace)
all_from net trace i item at =
    ap (all_deliveries net) (drop_at trace i item at)
    ∙ ap (λ (n : ℕ). item_deliveries net item ++ all_deliveries net (drop n trace)) (suc_is i)

pub none_from :
    (net : Network) (trace : List TraceItem) (i : ℕ) (item : TraceItem)
    → slice_get trace i ≡ Some item
    → length (item_deliveries net item) ≤ 0
    → all_deliveries net (drop (i + 1) trace) ≡ all_deliveries net (drop i trace)
none_from net trace i item at none =
    sym
    (all_from net trace i item at
    ∙ ap (λ (l : List Owed). l ++ all_deliveries net (drop (i + 1) trace))
    (nothing_left (item_deliveries net item) (omega arith)))

-- ---- the next

pub past :
    (net : Network) (receiver : ℕ) (trace : List TraceItem) (i : ℕ)
    → length trace ≤ i → IsNext net receiver (slice_get trace i)
past net receiver trace i h = subst (IsNext net receiver) (sym (slice_get_past trace i h)) tt

pub is_next :
    (net : Network) (trace : List TraceItem) (i receiver : ℕ) (item : TraceItem)
    → slice_get trace i ≡ Some item
    → IsNext net receiver (slice_get trace i)
    → receiver < length (item_deliveries net item)
is_next net trace i receiver item at h = subst (IsNext net receiver) at h

left_here :
    (net : Network) (trace : List TraceItem) (i receiver : ℕ) (item : TraceItem)
    → slice_get trace i ≡ Some item
    → left_at net trace i receiver
    ≡ drop receiver (item_deliveries net item) ++ all_deliveries net (drop (i + 1) trace)
left_here net trace i receiver item at =
    ap
    (λ (o : Option TraceItem).
    drop receiver (deliveries_at net o) ++ all_deliveries net (drop (i + 1) trace))
    at

pub first_left :
    (net : Network) (trace : List TraceItem) (i receiver : ℕ) (item : TraceItem)
    → slice_get trace i ≡ Some item
    → receiver < length (item_deliveries net item)
    → head_of (left_at net trace i receiver) ≡ slice_get (item_deliveries net item) receiver
first_left net trace i receiver item at h =
    ap (λ (l : List Owed). head_of l) (left_here net trace i receiver item at)
    ∙ head_of_joined (item_deliveries net item) (all_deliveries net (drop (i + 1) trace)) receiver h

-- the next is another one of the item
pub one_more :
    (net : Network) (trace : List TraceItem) (i receiver : ℕ) (item : TraceItem)
    → slice_get trace i ≡ Some item
    → receiver < length (item_deliveries net item)
    → left_at net trace i (receiver + 1) ≡ drop 1 (left_at net trace i receiver)
one_more net trace i receiver item at h =
    let rest : List Owed = all_deliveries net (drop (i + 1) trace) in
    left_here net trace i (receiver + 1) item at
    ∙ ap (λ (n : ℕ). drop n (item_deliveries net item) ++ rest) (sym (suc_is receiver))
    ∙ sym (drop_of_joined (item_deliveries net item) rest receiver h)
    ∙ sym (ap (λ (l : List Owed). drop 1 l) (left_here net trace i receiver item at))

pub none_left :
    (net : Network) (trace : List TraceItem) (i receiver : ℕ)
    → length trace ≤ i → left_at net trace i receiver ≡ []
none_left net trace i receiver h =
    let rest : List Owed = all_deliveries net (drop (i + 1) trace) in
    ap (λ (o : Option TraceItem). drop receiver (deliveries_at net o) ++ rest)
    (slice_get_past trace i h)
    ∙ ap (λ (l : List Owed). l ++ rest) (drop_past {X = Owed} [] receiver (omega arith))
    ∙ ap (all_deliveries net) (drop_past trace (i + 1) (omega arith))

-- what is left from the first delivery of an item on
pub left_whole :
    (net : Network) (trace : List TraceItem) (i : ℕ)
    → left_at net trace i 0 ≡ all_deliveries net (drop i trace)
left_whole net trace i =
    elim (slice_get_cases trace i).1 [
      | inl (item, within, at, same) ↦
          left_here net trace i 0 item at ∙ sym (all_from net trace i item at)
      | inr (past, none) ↦
          none_left net trace i 0 past ∙ sym (ap (all_deliveries net) (drop_past trace i past))
    ]

-- or the next is the first one after the item
pub one_item_more :
    (net : Network) (trace : List TraceItem) (i j receiver : ℕ) (item : TraceItem)
    → slice_get trace i ≡ Some item
    → receiver < length (item_deliveries net item)
    → length (item_deliveries net item) ≤ receiver + 1
    → all_deliveries net (drop j trace) ≡ all_deliveries net (drop (i + 1) trace)
    → left_at net trace j 0 ≡ drop 1 (left_at net trace i receiver)
one_item_more net trace i j receiver item at h last same =
    left_whole net trace j
    ∙ same
    ∙ sym
    (ap (λ (l : List Owed). l ++ all_deliveries net (drop (i + 1) trace))
    (drop_past (item_deliveries net item) (receiver + 1) last))
    ∙ sym (left_here net trace i (receiver + 1) item at)
    ∙ one_more net trace i receiver item at h

-- ---- each of them may arrive

item_arrives :
    (net : Network) (item : TraceItem)
    → EnvMayArrive
    → is_trace_item net item ≡ true
    → are_arrivals net (map (arrival_of 0) (item_deliveries net item)) ≡ true
item_arrives net Settle law h = refl
item_arrives net (Event e code) law h =
    all_arrive net 0 (item_deliveries net (Event e code)) (omega arith)
    (law net e code (and_parts (is_event_code net e code) _ h).0)

pub arrives :
    (net : Network) (item : TraceItem) (receiver : ℕ) (found : Option Arrival)
    → EnvMayArrive
    → is_trace_item net item ≡ true
    → found ≡ option_map (arrival_of 0) (slice_get (item_deliveries net item) receiver)
    → IfSome found (λ a. is_arrival net a ≡ true)
arrives net item receiver found law h is =
    subst (λ (o : Option Arrival). IfSome o (λ a. is_arrival net a ≡ true)) (sym is)
    (at_place (item_deliveries net item) receiver (item_arrives net item law h))
  where
    at_place :
        (owed : List Owed) (k : ℕ)
        → are_arrivals net (map (arrival_of 0) owed) ≡ true
        → IfSome (option_map (arrival_of 0) (slice_get owed k)) (λ a. is_arrival net a ≡ true)
    at_place [] k all = tt
    at_place (d ∷ owed) zero all =
        (and_parts (is_arrival net (arrival_of 0 d))
        (are_arrivals net (map (arrival_of 0) owed)) all).0
    at_place (d ∷ owed) (suc k) all =
        at_place owed k
        (and_parts (is_arrival net (arrival_of 0 d))
        (are_arrivals net (map (arrival_of 0) owed)) all).1
