-- An entry may come exactly where it is that of a move.
use Rattle.std.proofs.Common.{◌≡◌, ◌⊎◌, ℕ, ◌<◌, true, ◌&&◌, nat_lt, List, filter, flat_map, length, slice_get, Option, Some, None, option_map, IsSomeAnd, refl, sym, ap, subst, inl, inr}
use Rattle.std.specs.List.{Contains}
use Rattle.std.proofs.lemmas.Bool.{and_parts, lt-ltb, ltb-true}
use Rattle.std.proofs.lemmas.List.Elements.{Contains-append_left, Contains-append_right, Contains-append_cases}
use Rattle.std.proofs.lemmas.Option.{slice_get_within}
use Rattle.transition_table.specs.Transitions.{OfMachine, Transition, IsSnapshot, IsOutcome}
use Rattle.transition_table.specs.declared.decl.Party.{Party}
use Rattle.transition_table.specs.declared.decl.Party.TheVariants.{Env, Machine as Sender}
use Rattle.transition_table.specs.declared.machine.Machine.{Machine}
use Rattle.transition_table.specs.declared.network.Network.{Network}
use Rattle.journals.specs.declared.entry.Entry.{Entry}
use Rattle.journals.specs.declared.entry.Entry.TheVariants.{Dep, Rea}
use Rattle.journals.specs.declared.entry.Pick.{Pick}
use Rattle.journals.specs.declared.entry.Pick.TheVariants.{Deliver, React}
use Rattle.journals.specs.declared.entry.TraceItem.{TraceItem}
use Rattle.journals.specs.Journals.{FitsNetwork, is_event_code, is_party, is_woken, next_of}
use Rattle.journals.specs.Laws.{GoesOnBySteps, NextMayFollow}
use Rattle.journals.specs.Legality.{Legal, MayFollow}
use Rattle.journals.specs.Schedules.{IsPicked}
use Rattle.run_shuffle.specs.Laws.{AllMoves}
use Rattle.run_shuffle.specs.Moves.{IsOneOf, all_moves, env_moves, machines_of, network_moves, next_deliveries, next_delivery, reactions}
use Rattle.polis_base.proofs.Members.{in_filter, in_filter_map, in_flat_map, in_map, in_upto, of_filter, of_filter_map, of_flat_map, of_map, of_upto}

-- ---- what a move is

-- a move that a party has is a delivery of what it is to deliver next, to a machine
pub record IsNextTo (net : Network) (trace : List TraceItem) (journal : List Entry) (s : Party)
    (m : ℕ) (move : Pick) : Type 0 where
  pub below : m < length net.machines
  pub e : ℕ
  pub c : ℕ
  pub next : next_of net trace journal s m ≡ Some (e, c)
  pub is : move ≡ Deliver s m e c

pub next_is : (net : Network) (trace : List TraceItem) (journal : List Entry) (s : Party)
    (move : Pick) → Contains (next_deliveries net trace journal s) move
    → (m : ℕ) × IsNextTo net trace journal s m move
next_is net trace journal s move h =
    let (m, member, gives) =
    of_filter_map (next_delivery net trace journal s) (machines_of net) move h in
    (m, parts m (of_upto (length net.machines) m member) (next_of net trace journal s m) refl gives)
  where
    parts : (m : ℕ) → m < length net.machines → (o : Option (ℕ × ℕ))
        → next_of net trace journal s m ≡ o
        → option_map (λ (p : ℕ × ℕ). Deliver s m p.0 p.1) o ≡ Some move
        → IsNextTo net trace journal s m move
    parts m below None is gives = cc
    parts m below (Some (e, c)) is gives =
        record { below = below; e = e; c = c; next = is; is = let same : Deliver s m e c ≡ move = cc in sym same }

pub record IsWoken (net : Network) (journal : List Entry) (m : ℕ) (move : Pick) : Type 0 where
  pub below : m < length net.machines
  pub woken : is_woken journal m ≡ true
  pub is : move ≡ React m

pub reaction_is : (net : Network) (journal : List Entry) (move : Pick)
    → Contains (reactions net journal) move → (m : ℕ) × IsWoken net journal m move
reaction_is net journal move h =
    let (m, member, same) = of_map React (filter (is_woken journal) (machines_of net)) move h in
    let (inside, woken) = of_filter (is_woken journal) (machines_of net) m member in
    (m, record { below = of_upto (length net.machines) m inside; woken = woken; is = sym same })

-- each move of the network is one of these
pub network_move_is : (net : Network) (trace : List TraceItem) (journal : List Entry) (move : Pick)
    → Contains (network_moves net trace journal) move
    → ((s : ℕ) × (s < length net.machines) × (m : ℕ) × IsNextTo net trace journal (Sender s) m move)
    ⊎ ((m : ℕ) × IsWoken net journal m move)
network_move_is net trace journal move h =
    elim
    (Contains-append_cases
    (flat_map (λ s. next_deliveries net trace journal (Sender s)) (machines_of net))
    (reactions net journal) move h) [
      | inl sends ↦
          let (s, member, inside) =
          of_flat_map (λ s. next_deliveries net trace journal (Sender s)) (machines_of net) move
          sends in
          let (m, is) = next_is net trace journal (Sender s) move inside in
          inl (s, of_upto (length net.machines) s member, m, is)
      | inr reacts ↦ inr (reaction_is net journal move reacts)
    ]

-- and so is each move
pub move_is : (net : Network) (trace : List TraceItem) (journal : List Entry) (move : Pick)
    → Contains (all_moves net trace journal) move
    → ((s : Party) × (is_party net s ≡ true) × (m : ℕ) × IsNextTo net trace journal s m move)
    ⊎ ((m : ℕ) × IsWoken net journal m move)
move_is net trace journal move h =
    elim
    (Contains-append_cases (env_moves net trace journal) (network_moves net trace journal) move h) [
      | inl env ↦ let (m, is) = next_is net trace journal Env move env in inl (Env, refl, m, is)
      | inr network ↦ elim (network_move_is net trace journal move network) [
        | inl (s, below, m, is) ↦ inl (Sender s, lt-ltb s (length net.machines) below, m, is)
        | inr reacts ↦ inr reacts
      ]
    ]

-- ---- the entry of a move may come

pub move_may_follow : NextMayFollow
    → (net : Network) (trace : List TraceItem) (journal : List Entry) (move : Pick) (entry : Entry)
    → Legal net trace journal → Contains (all_moves net trace journal) move
    → IsPicked net journal move entry → MayFollow net trace journal entry
move_may_follow next net trace journal move entry legal member picked =
    elim (move_is net trace journal move member) [
      | inl (s, party, m, is) ↦
          let same : entry ≡ Dep s m is.e is.c =
          subst (λ k. IsPicked net journal k entry) is.is picked in
          subst (MayFollow net trace journal) (sym same)
          ((next net trace journal s m is.e is.c legal).1 is.next)
      | inr (m, is) ↦
          let (o, same, gives) = subst (λ k. IsPicked net journal k entry) is.is picked in
          subst (MayFollow net trace journal) (sym same) (is.woken, refl, gives)
    ]

-- ---- an entry that may come is that of a move

pub next_has : (net : Network) (trace : List TraceItem) (journal : List Entry) (s : Party) (m e c : ℕ)
    → m < length net.machines → next_of net trace journal s m ≡ Some (e, c)
    → Contains (next_deliveries net trace journal s) (Deliver s m e c)
next_has net trace journal s m e c below is =
    in_filter_map (next_delivery net trace journal s) (machines_of net) m (Deliver s m e c)
    (in_upto (length net.machines) m below)
    (ap (option_map (λ (p : ℕ × ℕ). Deliver s m p.0 p.1)) is)

pub delivery_in_network : (net : Network) (trace : List TraceItem) (journal : List Entry)
    (s m e c : ℕ) → s < length net.machines → m < length net.machines
    → next_of net trace journal (Sender s) m ≡ Some (e, c)
    → Contains (network_moves net trace journal) (Deliver (Sender s) m e c)
delivery_in_network net trace journal s m e c party below is =
    Contains-append_left
    (flat_map (λ s. next_deliveries net trace journal (Sender s)) (machines_of net))
    (reactions net journal) (Deliver (Sender s) m e c)
    (in_flat_map (λ s. next_deliveries net trace journal (Sender s)) (machines_of net) s
    (Deliver (Sender s) m e c) (in_upto (length net.machines) s party)
    (next_has net trace journal (Sender s) m e c below is))

pub reaction_in_network : (net : Network) (trace : List TraceItem) (journal : List Entry) (m : ℕ)
    → m < length net.machines → is_woken journal m ≡ true
    → Contains (network_moves net trace journal) (React m)
reaction_in_network net trace journal m below woken =
    Contains-append_right
    (flat_map (λ s. next_deliveries net trace journal (Sender s)) (machines_of net))
    (reactions net journal) (React m)
    (in_map React (filter (is_woken journal) (machines_of net)) m
    (in_filter (is_woken journal) (machines_of net) m (in_upto (length net.machines) m below) woken))

pub delivery_is_move : (net : Network) (trace : List TraceItem) (journal : List Entry) (s : Party)
    (m e c : ℕ) → is_party net s ≡ true → m < length net.machines
    → next_of net trace journal s m ≡ Some (e, c)
    → Contains (all_moves net trace journal) (Deliver s m e c)
delivery_is_move net trace journal Env m e c party below is =
    Contains-append_left (env_moves net trace journal) (network_moves net trace journal)
    (Deliver Env m e c) (next_has net trace journal Env m e c below is)
delivery_is_move net trace journal (Sender s) m e c party below is =
    Contains-append_right (env_moves net trace journal) (network_moves net trace journal)
    (Deliver (Sender s) m e c)
    (delivery_in_network net trace journal s m e c (ltb-true s (length net.machines) party) below is)

pub reaction_is_move : (net : Network) (trace : List TraceItem) (journal : List Entry) (m : ℕ)
    → m < length net.machines → is_woken journal m ≡ true
    → Contains (all_moves net trace journal) (React m)
reaction_is_move net trace journal m below woken =
    Contains-append_right (env_moves net trace journal) (network_moves net trace journal) (React m)
    (reaction_in_network net trace journal m below woken)

pub machine_below : (net : Network) (m : ℕ) (P : Machine → Type 0) (found : Option Machine)
    → slice_get net.machines m ≡ found → IsSomeAnd found P → m < length net.machines
machine_below net m P None is h = absurd h
machine_below net m P (Some machine) is h = slice_get_within net.machines m machine is

pub entry_is_move : NextMayFollow
    → (net : Network) (trace : List TraceItem) (journal : List Entry) (entry : Entry)
    → Legal net trace journal → FitsNetwork net entry → MayFollow net trace journal entry
    → IsOneOf net journal (all_moves net trace journal) entry
entry_is_move next net trace journal (Dep s m e c) legal fits may =
    let first = and_parts (is_party net s && nat_lt m (length net.machines)) (is_event_code net e c) fits in
    let parties = and_parts (is_party net s) (nat_lt m (length net.machines)) first.0 in (
      Deliver s m e c,
      delivery_is_move net trace journal s m e c parties.0 (ltb-true m (length net.machines) parties.1)
          ((next net trace journal s m e c legal).0 may),
      refl,
    )
entry_is_move next net trace journal (Rea m x o) legal fits (woken, at, gives) =
    let below =
    machine_below net m (λ machine. IsSnapshot machine x × IsOutcome machine o)
    (slice_get net.machines m) refl fits in (
      React m,
      reaction_is_move net trace journal m below woken,
      (
        o,
        ap (λ y. Rea m y o) at,
        subst (λ y. OfMachine net m (λ machine. Transition machine y o)) at gives,
      ),
    )

pub all_moves_law : GoesOnBySteps → NextMayFollow → AllMoves
all_moves_law steps next net trace journal entry legal fits = (
  (λ longer.
      entry_is_move next net trace journal entry legal fits
      ((steps net trace journal entry).0 longer).2),
  (λ (move, member, picked).
      (steps net trace journal entry).1
      (legal, fits, move_may_follow next net trace journal move entry legal member picked)),
)
