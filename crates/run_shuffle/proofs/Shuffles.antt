-- A shuffled journal is legal, and complete where it has fewer entries than it may.
use Rattle.std.proofs.Common.{◌≡◌, ℕ, ◌+◌, ◌-◌, ◌*◌, ◌/◌, Bool, true, false, cond, ◌&&◌, nat_lt, List, [], ◌∷◌, ◌++◌, filter, filter_map, flat_map, length, slice_get, Option, Some, None, unwrap_or, refl, sym, subst, inl, inr, append_assoc, arith}
use Rattle.std.specs.List.{Contains, list_all}
use Rattle.std.proofs.lemmas.Bool.{and_from, and_parts, lt-ltb}
use Rattle.std.proofs.lemmas.List.{append-nil}
use Rattle.std.proofs.lemmas.List.Elements.{Contains-append_left, Contains-append_right}
use Rattle.transition_table.specs.Laws.{TransitionFits}
use Rattle.transition_table.specs.declared.decl.Party.{Party}
use Rattle.transition_table.specs.declared.decl.Party.TheVariants.{Env, Machine as Sender}
use Rattle.transition_table.specs.declared.network.Network.{Network}
use Rattle.journals.specs.declared.entry.Entry.{Entry}
use Rattle.journals.specs.declared.entry.Entry.TheVariants.{Dep, Rea}
use Rattle.journals.specs.declared.entry.Pick.{Pick}
use Rattle.journals.specs.declared.entry.Pick.TheVariants.{Stop}
use Rattle.journals.specs.declared.entry.TraceItem.{TraceItem}
use Rattle.journals.specs.declared.entry.TraceItem.TheVariants.{Event, Settle}
use Rattle.journals.specs.AllLaws.{JournalLaws, SendingLaws}
use Rattle.journals.specs.Journals.{FitsNetwork, IsJournal, IsTrace, delivered, emissions, event_of, is_event_code, is_firing_of, is_party, is_trace_item, reads, sent}
use Rattle.journals.specs.Legality.{Legal}
use Rattle.journals.specs.Schedules.{IsPicked}
use Rattle.journals.proofs.FitsNetwork.{emissions_fit}
use Rattle.journals.proofs.SnapFits.{reaction_fits}
use Rattle.run_shuffle.specs.declared.order.RunOrder.{RunOrder}
use Rattle.run_shuffle.specs.Laws.{FewerIsComplete, OfferedMayCome, ShuffledIsLegal}
use Rattle.run_shuffle.specs.Moves.{all_moves}
use Rattle.run_shuffle.specs.Orders.{env_offered, network_offered}
use Rattle.polis_base.specs.Draws.{draw, next}
use Rattle.run_shuffle.specs.Shuffles.{IsDrawn, chosen, drawn, first_draw, pace, run_order}
use Rattle.polis_base.proofs.Members.{in_at, first_or_later, none_in_empty, of_filter, of_filter_map, of_flat_map}
use Rattle.run_shuffle.proofs.EntriesOfMoves.{move_is, move_may_follow}
use Rattle.run_shuffle.proofs.OffersUntilComplete.{offered_are_moves, stops_where_complete}

-- ---- what is sent fits the network

member_passes : {X : Type 0} (p : X → Bool) (xs : List X) (x : X) → list_all p xs ≡ true
    → Contains xs x → p x ≡ true
member_passes p [] x all h = absurd (none_in_empty x h)
member_passes p (y ∷ xs) x all h =
    let parts = and_parts (p y) (list_all p xs) all in
    elim (first_or_later y xs x h) [
      | inl same ↦ subst (λ z. p z ≡ true) same parts.0
      | inr later ↦ member_passes p xs x parts.1 later
    ]

entry_fits : (net : Network) (journal : List Entry) (entry : Entry) → IsJournal net journal
    → Contains journal entry → FitsNetwork net entry
entry_fits net [] entry fits h = absurd (none_in_empty entry h)
entry_fits net (first ∷ journal) entry fits h = elim (first_or_later first journal entry h) [
  | inl same ↦ subst (FitsNetwork net) same fits.0
  | inr later ↦ entry_fits net journal entry fits.1 later
]

emission_fits : (net : Network) (entry : Entry) (p : ℕ × ℕ) → FitsNetwork net entry
    → Contains (emissions net entry) p → is_event_code net p.0 p.1 ≡ true
emission_fits net (Dep s m e c) p fits h = absurd (none_in_empty p h)
emission_fits net (Rea m x o) p fits h =
    member_passes (λ p. is_event_code net p.0 p.1) (emissions net (Rea m x o)) p
    (emissions_fit net m x o fits).1 h

item_fits : (net : Network) (item : TraceItem) (p : ℕ × ℕ) → is_trace_item net item ≡ true
    → event_of item ≡ Some p → is_event_code net p.0 p.1 ≡ true
item_fits net Settle p fits is = cc
item_fits net (Event e c) p fits is =
    let same : (e, c) ≡ p = cc in
    subst (λ (q : ℕ × ℕ). is_event_code net q.0 q.1 ≡ true) same (first fits)
  where
    first : is_trace_item net (Event e c) ≡ true → is_event_code net e c ≡ true
    first h = (and_parts (is_event_code net e c) _ h).0

sent_fits : (net : Network) (trace : List TraceItem) (s : Party) (m : ℕ) (journal : List Entry)
    (p : ℕ × ℕ) → IsTrace net trace → IsJournal net journal
    → Contains (sent net trace s m journal) p → is_event_code net p.0 p.1 ≡ true
sent_fits net trace Env m journal p fits entries h =
    let (inside, read) = of_filter (λ p. reads net m p.0) (filter_map event_of trace) p h in
    let (item, member, is) = of_filter_map event_of trace p inside in
    item_fits net item p (member_passes (is_trace_item net) trace item fits member) is
sent_fits net trace (Sender s) m journal p fits entries h =
    let firings : List Entry = filter (is_firing_of s) journal in
    let (inside, read) = of_filter (λ p. reads net m p.0) (flat_map (emissions net) firings) p h in
    let (entry, member, emitted) = of_flat_map (emissions net) firings p inside in
    let (among, fires) = of_filter (is_firing_of s) journal entry member in
    emission_fits net entry p (entry_fits net journal entry entries among) emitted

-- ---- what is offered fits and may come

move_fits : TransitionFits
    → (net : Network) (trace : List TraceItem) (journal : List Entry) (move : Pick) (entry : Entry)
    → IsTrace net trace → Legal net trace journal → Contains (all_moves net trace journal) move
    → IsPicked net journal move entry → FitsNetwork net entry
move_fits transition net trace journal move entry fits legal member picked =
    elim (move_is net trace journal move member) [
      | inl (s, party, m, is) ↦
          let same : entry ≡ Dep s m is.e is.c =
          subst (λ k. IsPicked net journal k entry) is.is picked in
          let code =
          sent_fits net trace s m journal (is.e, is.c) fits legal.0
          (in_at (sent net trace s m journal) (length (delivered s m journal)) (is.e, is.c) is.next) in
          subst (FitsNetwork net) (sym same)
          (and_from (is_party net s && nat_lt m (length net.machines)) (is_event_code net is.e is.c)
          (and_from (is_party net s) (nat_lt m (length net.machines)) party
          (lt-ltb m (length net.machines) is.below)) code)
      | inr (m, is) ↦
          let (o, same, gives) = subst (λ k. IsPicked net journal k entry) is.is picked in
          subst (FitsNetwork net) (sym same) (reaction_fits transition net journal m o legal.0 gives)
    ]

pub offered_may_come : JournalLaws → SendingLaws → TransitionFits → OfferedMayCome
offered_may_come laws sending transition net trace journal order entry fits legal (move, member, picked) =
    let moves = offered_are_moves laws sending net trace journal order move fits legal member in (
      move_fits transition net trace journal move entry fits legal moves picked,
      move_may_follow sending.next net trace journal move entry legal moves picked,
    )

-- ---- what is drawn is offered

chosen_at : (net : Network) (journal : List Entry) (moves : List Pick) (k : ℕ) (entry : Entry)
    → IsPicked net journal (unwrap_or (slice_get moves k) Stop) entry
    → Contains moves (unwrap_or (slice_get moves k) Stop)
chosen_at net journal moves k entry picked =
    elim
    (slice_get moves k) as (λ (o : Option Pick). slice_get moves k ≡ o
    → IsPicked net journal (unwrap_or o Stop) entry → Contains moves (unwrap_or o Stop)) [
      | None ↦ λ is none. absurd none
      | Some move ↦ λ is some. in_at moves k move is
    ] refl picked

pub chosen_is_offered : (net : Network) (journal : List Entry) (env network : List Pick)
    (pace r : ℕ) (entry : Entry) → IsPicked net journal (chosen env network pace r) entry
    → Contains (env ++ network) (chosen env network pace r)
chosen_is_offered net journal env network pace r entry picked =
    cases (nat_lt r (length env)) picked
  where
    at_env : Pick
    at_env = unwrap_or (slice_get env r) Stop

    at_network : Pick
    at_network = unwrap_or (slice_get network ((r - length env) / pace)) Stop

    cases : (b : Bool) → IsPicked net journal (cond b at_env at_network) entry
        → Contains (env ++ network) (cond b at_env at_network)
    cases true h =
        Contains-append_left env network at_env (chosen_at net journal env r entry h)
    cases false h =
        Contains-append_right env network at_network
        (chosen_at net journal network ((r - length env) / pace) entry h)

-- ---- so shuffled journals are legal

pub drawn_is_legal : JournalLaws → SendingLaws → TransitionFits
    → (net : Network) (trace : List TraceItem) (order : RunOrder) (pace x : ℕ)
    (journal entries : List Entry)
    → IsTrace net trace → Legal net trace journal → IsDrawn net trace order pace x journal entries
    → Legal net trace (journal ++ entries)
drawn_is_legal laws sending transition net trace order pace x journal [] fits legal drawn =
    subst (Legal net trace) (sym (append-nil journal)) legal
drawn_is_legal laws sending transition net trace order pace x journal (entry ∷ entries) fits legal (first, rest) =
    let env : List Pick = env_offered order net trace journal in
    let network : List Pick = network_offered order net trace journal in
    let r = draw x (length env + pace * length network) in
    let may =
    offered_may_come laws sending transition net trace journal order entry fits legal
    (chosen env network pace r, chosen_is_offered net journal env network pace r entry first, first) in
    subst (Legal net trace) (append_assoc journal (entry ∷ []) entries)
    (drawn_is_legal laws sending transition net trace order pace (next x) (journal ++ entry ∷ [])
    entries fits
    ((laws.steps net trace journal entry).1 (legal, may.0, may.1)) rest)

pub shuffled_is_legal : JournalLaws → SendingLaws → TransitionFits → ShuffledIsLegal
shuffled_is_legal laws sending transition net trace seed order n journal fits shuffled =
    drawn_is_legal laws sending transition net trace (run_order order seed) (pace seed)
    (first_draw order seed) [] journal fits (tt, tt) shuffled.drawn

pub fewer_is_complete : JournalLaws → SendingLaws → TransitionFits → FewerIsComplete
fewer_is_complete laws sending transition net trace seed order n journal fits shuffled fewer =
    elim shuffled.whole [
      | inl whole ↦ absurd (omega arith)
      | inr (below, none) ↦
          (stops_where_complete laws sending net trace journal (run_order order seed) fits
          (shuffled_is_legal laws sending transition net trace seed order n journal fits shuffled)).0
          none
    ]
