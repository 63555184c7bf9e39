-- What the orders offer: each what the freer ones offer, and something where anything may be done.
use Rattle.std.proofs.Common.{◌≡◌, ◌⊎◌, ℕ, ◌+◌, ◌<◌, Bool, true, false, cond, ◌&&◌, ◌||◌, ◌==◌, nat_lt, List, [], ◌∷◌, ◌++◌, map, filter, length, take, Option, Some, None, option_map, refl, sym, ap, ◌∙◌, subst, inl, inr, arith}
use Rattle.std.specs.Prelude.{count_by, find}
use Rattle.std.specs.List.{Contains}
use Rattle.std.proofs.lemmas.Bool.{and_parts, eq-eqb, ltb-true}
use Rattle.std.proofs.lemmas.Option.{slice_get_within}
use Rattle.std.proofs.lemmas.List.{map-append}
use Rattle.std.proofs.lemmas.List.Folds.{fold-map}
use Rattle.std.proofs.lemmas.List.Elements.{Contains-append_left, Contains-append_right, Contains-append_cases}
use Rattle.polis_base.specs.Lists.{head_of}
use Rattle.transition_table.specs.declared.decl.Party.{Party}
use Rattle.transition_table.specs.declared.decl.Party.TheVariants.{Env, Machine as Sender}
use Rattle.transition_table.specs.declared.network.Network.{Network}
use Rattle.journals.specs.declared.entry.Entry.{Entry}
use Rattle.journals.specs.declared.entry.Entry.TheVariants.{Dep}
use Rattle.journals.specs.declared.entry.Owed.{Owed}
use Rattle.journals.specs.declared.entry.Pick.{Pick}
use Rattle.journals.specs.declared.entry.Pick.TheVariants.{Deliver, React, Stop}
use Rattle.journals.specs.declared.entry.TraceItem.{TraceItem}
use Rattle.journals.specs.declared.entry.TraceItem.TheVariants.{Event, Settle}
use Rattle.journals.specs.AllLaws.{JournalLaws, SendingLaws}
use Rattle.journals.specs.Journals.{IsTrace, delivered, is_event_code, is_party, is_woken, next_of, sent}
use Rattle.journals.specs.Legality.{Legal, MayFollow}
use Rattle.journals.specs.Schedules.{deliver, deliveries_of, first_pick, first_woken, is_way, keep_unless, owed_by_env, owed_by_machines, same_way, trace_deliveries, unmade}
use Rattle.journals.proofs.FirstOfWay.{find_of_head, first_from_env, first_from_machine}
use Rattle.journals.proofs.OwedAfter.{own_way}
use Rattle.journals.proofs.StopsWhereComplete.{first_woken_is, nil_from_head, none_woken_is}
use Rattle.run_shuffle.specs.declared.order.RunOrder.{RunOrder}
use Rattle.run_shuffle.specs.declared.order.RunOrder.TheVariants.{Free, Settled, Scheduled}
use Rattle.run_shuffle.specs.Blocks.{block_deliveries, block_to, current_block, has_begun, is_open, may_come, owed_in_blocks}
use Rattle.run_shuffle.specs.Laws.{OffersUntilComplete, ScheduledIsSettled, SettledIsFree}
use Rattle.run_shuffle.specs.Moves.{all_moves, env_moves, machines_of, network_moves, next_delivery}
use Rattle.run_shuffle.specs.Orders.{env_offered, first_move, moves_of_block, network_offered, offered, picked_move, same_block, scheduled_move}
use Rattle.polis_base.proofs.Members.{empty_has_none, first_or_later, in_filter, in_filter_map, in_upto, none_in_empty, of_filter, of_filter_map}
use Rattle.run_shuffle.proofs.EntriesOfMoves.{delivery_in_network, move_is, network_move_is, reaction_in_network}
use Rattle.polis_base.proofs.Places.{both_empty, map_of_map}

-- ---- lists

head_of_map : {X Y Z : Type 0} (f : X → Z) (g : Y → Z) (xs : List X) (ys : List Y) (x : X)
    → map f xs ≡ map g ys → head_of xs ≡ Some x
    → (y : Y) × (head_of ys ≡ Some y) × (g y ≡ f x)
head_of_map f g [] ys x same h = cc
head_of_map f g (z ∷ xs) [] x same h = cc
head_of_map f g (z ∷ xs) (y ∷ ys) x same h =
    let first : z ≡ x = cc in
    let images : f z ≡ g y = cc in
    (y, refl, sym images ∙ ap f first)

first_taken : {X Y : Type 0} (f : X → Y) (xs : List X) (y : Y) → Contains (map f (take 1 xs)) y
    → (x : X) × (head_of xs ≡ Some x) × (f x ≡ y)
first_taken f [] y h = absurd (none_in_empty y h)
first_taken f (x ∷ xs) y h = elim (first_or_later (f x) [] y h) [
  | inl same ↦ (x, refl, same)
  | inr none ↦ absurd (none_in_empty y none)
]

head_taken : {X Y : Type 0} (f : X → Y) (xs : List X) (x : X) → head_of xs ≡ Some x
    → map f (take 1 xs) ≡ [] → ⊥
head_taken f [] x h none = cc
head_taken f (y ∷ xs) x h none = cc

none_from_empty : {X : Type 0} (xs : List X) (x : X) → xs ≡ [] → Contains xs x → ⊥
none_from_empty xs x none h = none_in_empty x (subst (λ l. Contains l x) none h)

-- ---- the environment's owed deliveries, with their blocks and without

count_of_map : {X Y : Type 0} (p : Y → Bool) (f : X → Y) (xs : List X)
    → count_by (λ x. p (f x)) xs ≡ count_by p (map f xs)
count_of_map p f xs = sym (fold-map (λ k y. k + cond (p y) 1 0) f 0 xs)

unmade_of_map : {X : Type 0} (way : X → Owed) (journal : List Entry) (passed xs : List X)
    → map way (unmade way journal passed xs)
    ≡ unmade (λ d. d) journal (map way passed) (map way xs)
unmade_of_map way journal passed [] = refl
unmade_of_map {X} way journal passed (x ∷ xs) =
    kept (made (count_by (λ y. same_way (way y) (way x)) passed)) (unmade way journal (passed ++ x ∷ []) xs)
    ∙ ap (λ k. keep_unless (made k) (way x) (map way (unmade way journal (passed ++ x ∷ []) xs)))
    (count_of_map (λ d. same_way d (way x)) way passed)
    ∙ ap (keep_unless (made (count_by (λ d. same_way d (way x)) (map way passed))) (way x))
    (unmade_of_map way journal (passed ++ x ∷ []) xs
    ∙ ap (λ l. unmade (λ d. d) journal l (map way xs)) (map-append way passed (x ∷ [])))
  where
    made : ℕ → Bool
    made k = nat_lt k (length (delivered (way x).from (way x).to journal))

    kept : (b : Bool) (rest : List X)
        → map way (keep_unless b x rest) ≡ keep_unless b (way x) (map way rest)
    kept true rest = refl
    kept false rest = refl

same_deliveries : (net : Network) (settled : Bool) (b : ℕ) (trace : List TraceItem)
    → map (λ (p : Owed × Bool). p.0) (trace_deliveries net settled trace)
    ≡ map (λ (p : Owed × ℕ). p.0) (block_deliveries net b trace)
same_deliveries net settled b [] = refl
same_deliveries net settled b (Settle ∷ items) = same_deliveries net true (b + 1) items
same_deliveries net settled b (Event e c ∷ items) =
    map-append (λ (p : Owed × Bool). p.0) (map (λ d. (d, settled)) (deliveries_of net Env (e, c)))
    (trace_deliveries net false items)
    ∙ ap (λ l. l ++ map (λ (p : Owed × Bool). p.0) (trace_deliveries net false items))
    (map_of_map (λ (p : Owed × Bool). p.0) (λ d. (d, settled)) (deliveries_of net Env (e, c))
    ∙ sym (map_of_map (λ (p : Owed × ℕ). p.0) (λ d. (d, b)) (deliveries_of net Env (e, c))))
    ∙ ap (λ l. map (λ (p : Owed × ℕ). p.0) (map (λ d. (d, b)) (deliveries_of net Env (e, c))) ++ l)
    (same_deliveries net false b items)
    ∙ sym
    (map-append (λ (p : Owed × ℕ). p.0) (map (λ d. (d, b)) (deliveries_of net Env (e, c)))
    (block_deliveries net b items))

pub same_owed : (net : Network) (trace : List TraceItem) (journal : List Entry)
    → map (λ (p : Owed × Bool). p.0) (owed_by_env net trace journal)
    ≡ map (λ (p : Owed × ℕ). p.0) (owed_in_blocks net trace journal)
same_owed net trace journal =
    unmade_of_map (λ (p : Owed × Bool). p.0) journal [] (trace_deliveries net false trace)
    ∙ ap (unmade (λ d. d) journal []) (same_deliveries net false 0 trace)
    ∙ sym (unmade_of_map (λ (p : Owed × ℕ). p.0) journal [] (block_deliveries net 0 trace))

-- ---- the first deliveries that are owed are moves

-- the first delivery that the environment owes
pub record IsFirst (net : Network) (trace : List TraceItem) (journal : List Entry) (d : Owed)
    : Type 0 where
  pub from : d.from ≡ Env
  pub below : d.to < length net.machines
  pub next : next_of net trace journal Env d.to ≡ Some (d.event, d.code)
  pub b : ℕ
  pub in_block : head_of (owed_in_blocks net trace journal) ≡ Some (d, b)

pub first_is : JournalLaws → SendingLaws
    → (net : Network) (trace : List TraceItem) (journal : List Entry) (p : Owed × Bool)
    → IsTrace net trace → Legal net trace journal
    → head_of (owed_by_env net trace journal) ≡ Some p → IsFirst net trace journal p.0
first_is laws sending net trace journal (d, settled) fits legal first =
    let from = first_from_env net trace journal (d, settled) first in
    let may =
    subst (λ t. MayFollow net trace journal (Dep t d.to d.event d.code)) from
    (laws.first_of_env net trace journal d settled legal first) in
    let parts =
    and_parts (is_party net d.from && nat_lt d.to (length net.machines))
    (is_event_code net d.event d.code)
    (laws.first_of_env_fits net trace journal d settled fits first) in
    let ways = and_parts (is_party net d.from) (nat_lt d.to (length net.machines)) parts.0 in
    let ((owed, b), at, same) =
    head_of_map (λ (p : Owed × Bool). p.0) (λ (p : Owed × ℕ). p.0) (owed_by_env net trace journal)
    (owed_in_blocks net trace journal) (d, settled) (same_owed net trace journal) first in
    record {
      from = from;
      below = ltb-true d.to (length net.machines) ways.1;
      next = (sending.next net trace journal Env d.to d.event d.code legal).0 may;
      b = b;
      in_block = at ∙ ap (λ (o : Owed). Some (o, b)) same;
    }

-- its block is that of the first to its receiver
pub first_block_is : (net : Network) (trace : List TraceItem) (journal : List Entry) (d : Owed)
    → IsFirst net trace journal d
    → block_to net trace journal d.to ≡ current_block net trace journal
first_block_is net trace journal d is =
    let way : is_way Env d.to d ≡ true = subst (λ t. is_way t d.to d ≡ true) is.from (own_way d) in
    let found : find (λ (p : Owed × ℕ). is_way Env d.to p.0) (owed_in_blocks net trace journal)
    ≡ Some (d, is.b) =
    find_of_head (λ (p : Owed × ℕ). is_way Env d.to p.0) (owed_in_blocks net trace journal)
    (d, is.b) is.in_block way in
    ap (option_map (λ (p : Owed × ℕ). p.1)) found
    ∙ sym (ap (option_map (λ (p : Owed × ℕ). p.1)) is.in_block)

-- where nothing is owed, no block is the current one
pub no_current_block : (net : Network) (trace : List TraceItem) (journal : List Entry)
    → head_of (owed_by_env net trace journal) ≡ None → current_block net trace journal ≡ None
no_current_block net trace journal none =
    ap (option_map (λ (p : Owed × ℕ). p.1))
    (no_head (owed_by_env net trace journal) (owed_in_blocks net trace journal)
    (same_owed net trace journal) none)
  where
    no_head : (xs : List (Owed × Bool)) (ys : List (Owed × ℕ))
        → map (λ (p : Owed × Bool). p.0) xs ≡ map (λ (p : Owed × ℕ). p.0) ys
        → head_of xs ≡ None → head_of ys ≡ None
    no_head [] [] same none = refl
    no_head [] (y ∷ ys) same none = cc
    no_head (x ∷ xs) ys same none = cc

first_of_block : (net : Network) (trace : List TraceItem) (journal : List Entry) (d : Owed)
    → IsFirst net trace journal d → Contains (moves_of_block net trace journal) (deliver d)
first_of_block net trace journal d is =
    let way : is_way Env d.to d ≡ true = subst (λ t. is_way t d.to d ≡ true) is.from (own_way d) in
    let found : find (λ (p : Owed × ℕ). is_way Env d.to p.0) (owed_in_blocks net trace journal)
    ≡ Some (d, is.b) =
    find_of_head (λ (p : Owed × ℕ). is_way Env d.to p.0) (owed_in_blocks net trace journal)
    (d, is.b) is.in_block way in
    let mine : block_to net trace journal d.to ≡ Some is.b =
    ap (option_map (λ (p : Owed × ℕ). p.1)) found in
    let now : current_block net trace journal ≡ Some is.b =
    ap (option_map (λ (p : Owed × ℕ). p.1)) is.in_block in
    let same : same_block (block_to net trace journal d.to) (current_block net trace journal) ≡ true =
    ap (λ a. same_block a (current_block net trace journal)) mine
    ∙ ap (same_block (Some is.b)) now ∙ eq-eqb is.b is.b refl in
    let gives : next_delivery net trace journal Env d.to ≡ Some (deliver d) =
    ap (option_map (λ (p : ℕ × ℕ). Deliver Env d.to p.0 p.1)) is.next
    ∙ ap (λ t. Some (Deliver t d.to d.event d.code)) (sym is.from) in
    in_filter_map (next_delivery net trace journal Env)
    (filter (λ m. same_block (block_to net trace journal m) (current_block net trace journal))
    (machines_of net)) d.to (deliver d)
    (in_filter (λ m. same_block (block_to net trace journal m) (current_block net trace journal))
    (machines_of net) d.to (in_upto (length net.machines) d.to is.below) same) gives

block_moves_are_moves : (net : Network) (trace : List TraceItem) (journal : List Entry)
    (move : Pick) → Contains (moves_of_block net trace journal) move
    → Contains (env_moves net trace journal) move
block_moves_are_moves net trace journal move h =
    let (m, member, gives) =
    of_filter_map (next_delivery net trace journal Env)
    (filter (λ m. same_block (block_to net trace journal m) (current_block net trace journal))
    (machines_of net)) move h in
    let (inside, same) =
    of_filter (λ m. same_block (block_to net trace journal m) (current_block net trace journal))
    (machines_of net) m member in
    in_filter_map (next_delivery net trace journal Env) (machines_of net) m move inside gives

-- the first delivery that machines owe is a move of the network
first_of_network : JournalLaws → SendingLaws
    → (net : Network) (trace : List TraceItem) (journal : List Entry) (d : Owed)
    → Legal net trace journal → head_of (owed_by_machines net journal) ≡ Some d
    → Contains (network_moves net trace journal) (deliver d)
first_of_network laws sending net trace journal d legal first =
    let (s, from) = first_from_machine net journal d first in
    let may =
    subst (λ t. MayFollow net trace journal (Dep t d.to d.event d.code)) from
    (laws.first_of_machines net trace journal d legal first) in
    let parts =
    and_parts (is_party net d.from && nat_lt d.to (length net.machines))
    (is_event_code net d.event d.code)
    (laws.first_of_machines_fits net journal d legal.0 first) in
    let ways = and_parts (is_party net d.from) (nat_lt d.to (length net.machines)) parts.0 in
    subst (λ t. Contains (network_moves net trace journal) (Deliver t d.to d.event d.code)) (sym from)
    (delivery_in_network net trace journal s d.to d.event d.code
    (ltb-true s (length net.machines) (subst (λ t. is_party net t ≡ true) from ways.0))
    (ltb-true d.to (length net.machines) ways.1)
    ((sending.next net trace journal (Sender s) d.to d.event d.code legal).0 may))

-- ---- each order offers what the freer ones offer

settled_is_free : (net : Network) (trace : List TraceItem) (journal : List Entry) (move : Pick)
    → Contains (env_offered Settled net trace journal) move
    → Contains (env_moves net trace journal) move
settled_is_free net trace journal move h = cases (is_open net trace journal) h
  where
    cases : (b : Bool) → Contains (cond b (moves_of_block net trace journal) []) move
        → Contains (env_moves net trace journal) move
    cases true k = block_moves_are_moves net trace journal move k
    cases false k = absurd (none_in_empty move k)

scheduled_is_settled : JournalLaws → SendingLaws
    → (net : Network) (trace : List TraceItem) (journal : List Entry) (move : Pick)
    → IsTrace net trace → Legal net trace journal
    → Contains (env_offered Scheduled net trace journal) move
    → Contains (env_offered Settled net trace journal) move
scheduled_is_settled laws sending net trace journal move fits legal h =
    cases (is_open net trace journal) h
  where
    cases : (b : Bool) → Contains (cond b (first_move net trace journal) []) move
        → Contains (cond b (moves_of_block net trace journal) []) move
    cases true k =
        let (p, first, same) =
        first_taken (λ (p : Owed × Bool). deliver p.0) (owed_by_env net trace journal) move k in
        subst (λ z. Contains (moves_of_block net trace journal) z) same
        (first_of_block net trace journal p.0
        (first_is laws sending net trace journal p fits legal first))
    cases false k = absurd (none_in_empty move k)

picked_is : (a : Option Owed) (c : Option ℕ) (move : Pick)
    → Contains (picked_move (first_pick a None c)) move
    → ((d : Owed) × (a ≡ Some d) × (deliver d ≡ move)) ⊎ ((m : ℕ) × (c ≡ Some m) × (React m ≡ move))
picked_is (Some d) c move h = elim (first_or_later (deliver d) [] move h) [
  | inl same ↦ inl (d, refl, same)
  | inr none ↦ absurd (none_in_empty move none)
]
picked_is None (Some m) move h = elim (first_or_later (React m) [] move h) [
  | inl same ↦ inr (m, refl, same)
  | inr none ↦ absurd (none_in_empty move none)
]
picked_is None None move h = absurd (none_in_empty move h)

pub scheduled_in_network : JournalLaws → SendingLaws
    → (net : Network) (trace : List TraceItem) (journal : List Entry) (move : Pick)
    → Legal net trace journal → Contains (scheduled_move net journal) move
    → Contains (network_moves net trace journal) move
scheduled_in_network laws sending net trace journal move legal h =
    elim
    (picked_is (head_of (owed_by_machines net journal)) (first_woken net journal) move h) [
      | inl (d, first, same) ↦
          subst (λ z. Contains (network_moves net trace journal) z) same
          (first_of_network laws sending net trace journal d legal first)
      | inr (m, first, same) ↦
          let woken = first_woken_is net journal m first in
          subst (λ z. Contains (network_moves net trace journal) z) same
          (reaction_in_network net trace journal m woken.1 woken.0)
    ]

pub scheduled_offers_settled : JournalLaws → SendingLaws → ScheduledIsSettled
scheduled_offers_settled laws sending net trace journal move fits legal h =
    elim
    (Contains-append_cases (env_offered Scheduled net trace journal) (scheduled_move net journal) move
    h) [
      | inl env ↦
          Contains-append_left (env_offered Settled net trace journal)
          (network_moves net trace journal) move
          (scheduled_is_settled laws sending net trace journal move fits legal env)
      | inr network ↦
          Contains-append_right (env_offered Settled net trace journal)
          (network_moves net trace journal) move
          (scheduled_in_network laws sending net trace journal move legal network)
    ]

pub settled_offers_free : SettledIsFree
settled_offers_free net trace journal move h =
    elim
    (Contains-append_cases (env_offered Settled net trace journal) (network_moves net trace journal)
    move h) [
      | inl env ↦
          Contains-append_left (env_moves net trace journal) (network_moves net trace journal) move
          (settled_is_free net trace journal move env)
      | inr network ↦
          Contains-append_right (env_moves net trace journal) (network_moves net trace journal) move
          network
    ]

-- so each order offers moves alone
pub offered_are_moves : JournalLaws → SendingLaws
    → (net : Network) (trace : List TraceItem) (journal : List Entry) (order : RunOrder)
    (move : Pick) → IsTrace net trace → Legal net trace journal
    → Contains (offered order net trace journal) move
    → Contains (all_moves net trace journal) move
offered_are_moves laws sending net trace journal Free move fits legal h = h
offered_are_moves laws sending net trace journal Settled move fits legal h =
    settled_offers_free net trace journal move h
offered_are_moves laws sending net trace journal Scheduled move fits legal h =
    settled_offers_free net trace journal move
    (scheduled_offers_settled laws sending net trace journal move fits legal h)

-- none of which is to stop, and reactions are of machines
pub offered_is_sound : JournalLaws → SendingLaws
    → (net : Network) (trace : List TraceItem) (journal : List Entry) (order : RunOrder)
    (move : Pick) → IsTrace net trace → Legal net trace journal
    → Contains (offered order net trace journal) move
    → (move ≡ Stop → ⊥) × ((m : ℕ) → move ≡ React m → m < length net.machines)
offered_is_sound laws sending net trace journal order move fits legal h =
    elim
    (move_is net trace journal move
    (offered_are_moves laws sending net trace journal order move fits legal h)) [
      | inl (s, party, m, is) ↦ (
        (λ stop. let no : Deliver s m is.e is.c ≡ Stop = sym is.is ∙ stop in cc),
        (λ k react. let no : Deliver s m is.e is.c ≡ React k = sym is.is ∙ react in absurd (cc)),
      )
      | inr (m, is) ↦ (
        (λ stop. let no : React m ≡ Stop = sym is.is ∙ stop in cc),
        (λ k react.
            let both : React m ≡ React k = sym is.is ∙ react in
            let same : m ≡ k = cc in
            subst (λ j. j < length net.machines) same is.below),
      )
    ]

-- ---- nothing is offered exactly where the journal is complete

-- where the network has no move, no machine owes a delivery and none is woken
network_rests : JournalLaws → SendingLaws
    → (net : Network) (trace : List TraceItem) (journal : List Entry) → Legal net trace journal
    → network_moves net trace journal ≡ []
    → (head_of (owed_by_machines net journal) ≡ None)
    × ((m : ℕ) → m < length net.machines → is_woken journal m ≡ false)
network_rests laws sending net trace journal legal none = (
  elim
      (head_of (owed_by_machines net journal)) as (λ (o : Option Owed).
      head_of (owed_by_machines net journal) ≡ o → o ≡ None) [
        | None ↦ λ is. refl
        | Some d ↦ λ is.
            absurd
            (none_from_empty (network_moves net trace journal) (deliver d) none
            (first_of_network laws sending net trace journal d legal is))
      ] refl,
  (λ m below.
      elim (is_woken journal m) as (λ (b : Bool). is_woken journal m ≡ b → b ≡ false) [
        | true ↦ λ woken.
            absurd
            (none_from_empty (network_moves net trace journal) (React m) none
            (reaction_in_network net trace journal m below woken))
        | false ↦ λ asleep. refl
      ] refl),
)

-- where the scheduler has nothing of the network, the network has no move
pub network_has_none : SendingLaws
    → (net : Network) (trace : List TraceItem) (journal : List Entry) → Legal net trace journal
    → head_of (owed_by_machines net journal) ≡ None → first_woken net journal ≡ None
    → network_moves net trace journal ≡ []
network_has_none sending net trace journal legal machines woken =
    empty_has_none (network_moves net trace journal) (λ move h.
    elim (network_move_is net trace journal move h) [
      | inl (s, below, m, is) ↦
          let may =
          (sending.next net trace journal (Sender s) m is.e is.c legal).1 is.next in
          let found = (sending.first_of_way net trace journal s m is.e is.c legal).0 may in
          none_found s m is.e is.c (nil_from_head (owed_by_machines net journal) machines) found
      | inr (m, is) ↦ let asleep = none_woken_is net journal woken m is.below in
          let awake = is.woken in cc
    ])
  where
    none_found : (s m e c : ℕ) → owed_by_machines net journal ≡ []
        → find (is_way (Sender s) m) (owed_by_machines net journal)
        ≡ Some (record { from = Sender s; to = m; event = e; code = c }) → ⊥
    none_found s m e c none found =
        let nothing : find (is_way (Sender s) m) (owed_by_machines net journal) ≡ None =
        ap (find (is_way (Sender s) m)) none in
        cc

-- where the environment owes something and the network has no move, the environment is open
open_where_idle : (net : Network) (trace : List TraceItem) (journal : List Entry) (b : ℕ)
    → current_block net trace journal ≡ Some b → network_moves net trace journal ≡ []
    → is_open net trace journal ≡ true
open_where_idle net trace journal b now none =
    ap (may_come net trace journal) now
    ∙ ap (λ (l : List Pick). b == 0 || has_begun net trace journal b || length l == 0) none
    ∙ any (b == 0) (has_begun net trace journal b)
  where
    any : (x y : Bool) → (x || y || true) ≡ true
    any true y = refl
    any false true = refl
    any false false = refl

-- where the network has no move, and the environment is offered nothing, it owes nothing
env_rests : JournalLaws → SendingLaws
    → (net : Network) (trace : List TraceItem) (journal : List Entry) (order : RunOrder)
    → IsTrace net trace → Legal net trace journal → network_moves net trace journal ≡ []
    → env_offered order net trace journal ≡ [] → head_of (owed_by_env net trace journal) ≡ None
env_rests laws sending net trace journal order fits legal idle none =
    elim
    (head_of (owed_by_env net trace journal)) as (λ (o : Option (Owed × Bool)).
    head_of (owed_by_env net trace journal) ≡ o → o ≡ None) [
      | None ↦ λ is. refl
      | Some p ↦ λ is.
          absurd
          (offers order p is (first_is laws sending net trace journal p fits legal is) none)
    ] refl
  where
    opens : (p : Owed × Bool) → IsFirst net trace journal p.0 → is_open net trace journal ≡ true
    opens p first =
        open_where_idle net trace journal first.b
        (ap (option_map (λ (p : Owed × ℕ). p.1)) first.in_block) idle

    offers : (order : RunOrder) (p : Owed × Bool) → head_of (owed_by_env net trace journal) ≡ Some p
        → IsFirst net trace journal p.0 → env_offered order net trace journal ≡ [] → ⊥
    offers Free p is first none =
        none_from_empty (env_moves net trace journal) (deliver p.0) none
        (block_moves_are_moves net trace journal (deliver p.0)
        (first_of_block net trace journal p.0 first))
    offers Settled p is first none =
        none_from_empty (moves_of_block net trace journal) (deliver p.0)
        (sym (ap (λ (b : Bool). cond b (moves_of_block net trace journal) []) (opens p first)) ∙ none)
        (first_of_block net trace journal p.0 first)
    offers Scheduled p is first none =
        head_taken (λ (p : Owed × Bool). deliver p.0) (owed_by_env net trace journal) p is
        (sym (ap (λ (b : Bool). cond b (first_move net trace journal) []) (opens p first)) ∙ none)

-- where the network is offered nothing, it has no move
network_offered_all : SendingLaws
    → (net : Network) (trace : List TraceItem) (journal : List Entry) (order : RunOrder)
    → Legal net trace journal → network_offered order net trace journal ≡ []
    → network_moves net trace journal ≡ []
network_offered_all sending net trace journal Free legal none = none
network_offered_all sending net trace journal Settled legal none = none
network_offered_all sending net trace journal Scheduled legal none =
    let (machines, woken) =
    stopped (head_of (owed_by_machines net journal)) (first_woken net journal) none in
    network_has_none sending net trace journal legal machines woken
  where
    stopped : (a : Option Owed) (c : Option ℕ) → picked_move (first_pick a None c) ≡ []
        → (a ≡ None) × (c ≡ None)
    stopped (Some d) c none = cc
    stopped None (Some m) none = cc
    stopped None None none = (refl, refl)

pub stops_where_complete : JournalLaws → SendingLaws → OffersUntilComplete
stops_where_complete laws sending net trace journal order fits legal = (
  (λ none.
      let (env, network) =
      both_empty (env_offered order net trace journal) (network_offered order net trace journal)
      none in
      let idle = network_offered_all sending net trace journal order legal network in
      let (machines, woken) = network_rests laws sending net trace journal legal idle in
      (sending.complete net trace journal legal).1
      (machines, env_rests laws sending net trace journal order fits legal idle env, woken)),
  (λ complete.
      empty_has_none (offered order net trace journal) (λ move h.
      elim
      (move_is net trace journal move
      (offered_are_moves laws sending net trace journal order move fits legal h)) [
        | inl (s, party, m, is) ↦
            nothing_next s m is.e is.c (complete.all_delivered s m party is.below) is.next
        | inr (m, is) ↦ let asleep = complete.none_woken m is.below in let awake = is.woken in cc
      ])),
)
  where
    nothing_next : (s : Party) (m e c : ℕ) → delivered s m journal ≡ sent net trace s m journal
        → next_of net trace journal s m ≡ Some (e, c) → ⊥
    nothing_next s m e c all next =
        let below =
        slice_get_within (sent net trace s m journal) (length (delivered s m journal)) (e, c) next in
        let same = ap length all in
        omega arith
