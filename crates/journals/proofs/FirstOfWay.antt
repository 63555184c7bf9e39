-- The first owed delivery of a sender to a receiver is the one that may follow.
use Rattle.std.specs.Prelude.{◌≡◌, ◌↔◌, ℕ, zero, suc, Bool, true, false, cond, List, [], ◌∷◌, map, filter, length, drop, slice_get, Option, Some, None, option_map, find}
use Rattle.std.proofs.Common.{refl, sym, ap, ◌∙◌, subst}
use Rattle.std.proofs.lemmas.Option.{slice_get-map}
use Rattle.polis_base.specs.Lists.{head_of}
use Rattle.transition_table.specs.declared.decl.Party.{Party}
use Rattle.transition_table.specs.declared.decl.Party.TheVariants.{Env, Machine as Sender}
use Rattle.transition_table.specs.declared.network.Network.{Network}
use Rattle.journals.specs.declared.entry.Entry.{Entry}
use Rattle.journals.specs.declared.entry.Entry.TheVariants.{Dep}
use Rattle.journals.specs.declared.entry.Owed.{Owed}
use Rattle.journals.specs.declared.entry.TraceItem.{TraceItem}
use Rattle.journals.specs.Journals.{delivered, sent}
use Rattle.journals.specs.Legality.{Legal, MayFollow}
use Rattle.journals.specs.Schedules.{is_way, event_code, machine_deliveries, trace_deliveries, unmade, owed_by_machines, owed_by_env}
use Rattle.journals.proofs.DeliveredBeginsSent.{delivered_begins_sent, may_follow_next}
use Rattle.journals.proofs.DeliveriesOfWay.{machine_ways, env_ways}
use Rattle.journals.proofs.OwedAfter.{own_way, way_parts, owed_of_way, owed_by_machines_env, owed_by_env_machine}

-- ---- lists

pub find_is_head : {X : Type 0} (p : X → Bool) (xs : List X) → find p xs ≡ head_of (filter p xs)
find_is_head p [] = refl
find_is_head p (x ∷ xs) =
    elim
    (p x) as (λ b. cond b (Some x) (find p xs) ≡ head_of (cond b (x ∷ filter p xs) (filter p xs))) [
      | true ↦ refl
      | false ↦ find_is_head p xs
    ]

pub head_of_drop : {X : Type 0} (n : ℕ) (xs : List X) → head_of (drop n xs) ≡ slice_get xs n
head_of_drop zero [] = refl
head_of_drop zero (x ∷ xs) = refl
head_of_drop (suc n) [] = refl
head_of_drop (suc n) (x ∷ xs) = head_of_drop n xs

pub find_passes : {X : Type 0} (p : X → Bool) (xs : List X) (x : X) → find p xs ≡ Some x
    → p x ≡ true
find_passes p [] x h = cc
find_passes p (y ∷ xs) x h = cases (p y) refl h (find_passes p xs x)
  where
    cases : (b : Bool) → p y ≡ b → cond b (Some y) (find p xs) ≡ Some x
        → (find p xs ≡ Some x → p x ≡ true) → p x ≡ true
    cases true here h rest = let same : y ≡ x = cc in subst (λ z. p z ≡ true) same here
    cases false here h rest = rest h

pub find_of_head : {X : Type 0} (p : X → Bool) (xs : List X) (x : X) → head_of xs ≡ Some x
    → p x ≡ true → find p xs ≡ Some x
find_of_head p [] x h passed = cc
find_of_head p (y ∷ xs) x h passed =
    let same : y ≡ x = cc in
    rw same (rw passed refl)

-- ---- the next of one sender to one receiver

next_of_way : {X : Type 0} (way : X → Owed) (s : Party) (m : ℕ) (journal : List Entry) (xs : List X)
    (sends : List (ℕ × ℕ))
    → map (λ x. event_code (way x)) (filter (λ x. is_way s m (way x)) xs) ≡ sends
    → option_map (λ x. event_code (way x))
    (find (λ x. is_way s m (way x)) (unmade way journal [] xs))
    ≡ slice_get sends (length (delivered s m journal))
next_of_way way s m journal xs sends h =
    ap (option_map (λ x. event_code (way x)))
    (find_is_head (λ x. is_way s m (way x)) (unmade way journal [] xs)
    ∙ ap head_of (owed_of_way way s m journal xs)
    ∙ head_of_drop (length (delivered s m journal)) (filter (λ x. is_way s m (way x)) xs))
    ∙ sym
    (slice_get-map (λ x. event_code (way x)) (filter (λ x. is_way s m (way x)) xs)
    (length (delivered s m journal)))
    ∙ ap (λ l. slice_get l (length (delivered s m journal))) h

pub owed_is : (d : Owed) (s : Party) (m e c : ℕ) → is_way s m d ≡ true → event_code d ≡ (e, c)
    → ◌≡◌ {A = Owed} d (record { from = s; to = m; event = e; code = c })
owed_is d s m e c h k =
    let parts = way_parts s m d h in
    let event : d.event ≡ e = ap (λ (p : ℕ × ℕ). p.0) k in
    let code : d.code ≡ c = ap (λ (p : ℕ × ℕ). p.1) k in
    ap (λ t. let made : Owed =
    record { from = t; to = d.to; event = d.event; code = d.code } in made) parts.0
    ∙ ap
    (λ t. let made : Owed = record { from = s; to = t; event = d.event; code = d.code } in made)
    parts.1
    ∙ ap
    (λ t. let made : Owed = record { from = s; to = m; event = t; code = d.code } in made) event
    ∙ ap (λ t. let made : Owed = record { from = s; to = m; event = e; code = t } in made) code

-- where a list's items of one way are what was sent, the first owed of them is the delivery that
-- may follow
first_of_way : {X : Type 0} (way : X → Owed) (net : Network) (trace : List TraceItem)
    (journal : List Entry) (s : Party) (m e c : ℕ) (xs : List X)
    → Legal net trace journal
    → map (λ x. event_code (way x)) (filter (λ x. is_way s m (way x)) xs)
    ≡ sent net trace s m journal
    → MayFollow net trace journal (Dep s m e c)
    ↔ (option_map way (find (λ x. is_way s m (way x)) (unmade way journal [] xs))
    ≡ Some (record { from = s; to = m; event = e; code = c }))
first_of_way {X} way net trace journal s m e c xs legal h =
    let steps =
    may_follow_next net trace journal s m e c (delivered_begins_sent net trace s m journal legal) in
    let next = next_of_way way s m journal xs (sent net trace s m journal) h in (
      (λ may.
          elim
          (find (λ x. is_way s m (way x)) (unmade way journal [] xs)) as (λ (o : Option X). find
          (λ x. is_way s m (way x)) (unmade way journal [] xs) ≡ o
          → option_map (λ x. event_code (way x)) o ≡ Some (e, c)
          → option_map way o ≡ Some (record { from = s; to = m; event = e; code = c })) [
            | None ↦ λ is none. cc
            | Some x ↦ λ is some.
                ap Some
                (owed_is (way x) s m e c
                (find_passes (λ x. is_way s m (way x)) (unmade way journal [] xs) x is) (cc))
          ] refl (next ∙ steps.0 may)),
      (λ found.
          steps.1
          (sym next ∙ pairs (find (λ x. is_way s m (way x)) (unmade way journal [] xs)) found)),
    )
  where
    pairs : (o : Option X)
        → option_map way o ≡ Some (record { from = s; to = m; event = e; code = c })
        → option_map (λ x. event_code (way x)) o ≡ Some (e, c)
    pairs None found = cc
    pairs (Some x) found = let same : way x ≡ record { from = s; to = m; event = e; code = c } =
        cc in ap (λ (d : Owed). Some (event_code d)) same

-- of a machine's deliveries the first owed one of its way may follow, and no other
pub first_of_machine : (net : Network) (trace : List TraceItem) (journal : List Entry) (s m e c : ℕ)
    → Legal net trace journal → MayFollow net trace journal (Dep (Sender s) m e c)
    ↔ (find (is_way (Sender s) m) (owed_by_machines net journal)
    ≡ Some (record { from = Sender s; to = m; event = e; code = c }))
first_of_machine net trace journal s m e c legal =
    let both =
    first_of_way (λ d. d) net trace journal (Sender s) m e c (machine_deliveries net journal) legal
    (machine_ways net trace s m journal) in (
      (λ may. sym (same (find (is_way (Sender s) m) (owed_by_machines net journal))) ∙ both.0 may),
      (λ found. both.1 (same (find (is_way (Sender s) m) (owed_by_machines net journal)) ∙ found)),
    )
  where
    same : (o : Option Owed) → option_map (λ d. d) o ≡ o
    same None = refl
    same (Some d) = refl

pub first_of_env : (net : Network) (trace : List TraceItem) (journal : List Entry) (m e c : ℕ)
    → Legal net trace journal → MayFollow net trace journal (Dep Env m e c)
    ↔ (option_map (λ (p : Owed × Bool). p.0)
    (find (λ (p : Owed × Bool). is_way Env m p.0) (owed_by_env net trace journal))
    ≡ Some (record { from = Env; to = m; event = e; code = c }))
first_of_env net trace journal m e c legal =
    first_of_way (λ (p : Owed × Bool). p.0) net trace journal Env m e c
    (trace_deliveries net false trace) legal (env_ways net trace m journal)

-- ---- what is first may follow

head_may_follow : {X : Type 0} (way : X → Owed) (net : Network) (trace : List TraceItem)
    (journal : List Entry) (s : Party) (xs : List X) (x : X)
    → Legal net trace journal
    → ((m : ℕ)
    → map (λ x. event_code (way x)) (filter (λ x. is_way s m (way x)) xs)
    ≡ sent net trace s m journal)
    → (way x).from ≡ s
    → head_of (unmade way journal [] xs) ≡ Some x
    → MayFollow net trace journal (Dep (way x).from (way x).to (way x).event (way x).code)
head_may_follow way net trace journal s xs x legal ways from first =
    let found : find (λ y. is_way (way x).from (way x).to (way y)) (unmade way journal [] xs)
    ≡ Some x =
    find_of_head (λ y. is_way (way x).from (way x).to (way y)) (unmade way journal [] xs) x first
    (own_way (way x)) in
    (first_of_way way net trace journal (way x).from (way x).to (way x).event (way x).code xs legal
    (subst
    (λ t.
    map (λ y. event_code (way y)) (filter (λ y. is_way t (way x).to (way y)) xs)
    ≡ sent net trace t (way x).to journal) (sym from) (ways (way x).to))).1
    (ap (option_map way) found)

head_is_of_way : {X : Type 0} (way : X → Owed) (xs : List X) (x : X) → head_of xs ≡ Some x
    → filter (λ y. is_way (way x).from (way x).to (way y)) xs ≡ [] → ⊥
head_is_of_way way xs x first none =
    let found =
    find_of_head (λ y. is_way (way x).from (way x).to (way y)) xs x first (own_way (way x)) in
    let head = find_is_head (λ y. is_way (way x).from (way x).to (way y)) xs in
    let nothing = ap head_of none in
    cc

-- the first owed delivery of a machine is of a machine
pub first_from_machine : (net : Network) (journal : List Entry) (d : Owed)
    → head_of (owed_by_machines net journal) ≡ Some d → (s : ℕ) × (d.from ≡ Sender s)
first_from_machine net journal d first =
    elim d.from as (λ t. d.from ≡ t → (s : ℕ) × (d.from ≡ Sender s)) [
      | Env ↦ λ from.
          absurd
          (head_is_of_way (λ d. d) (owed_by_machines net journal) d first
          (subst (λ t. filter (is_way t d.to) (owed_by_machines net journal) ≡ []) (sym from)
          (owed_by_machines_env net journal d.to)))
      | Sender s ↦ λ from. (s, from)
    ] refl

pub first_from_env : (net : Network) (trace : List TraceItem) (journal : List Entry)
    (p : Owed × Bool) → head_of (owed_by_env net trace journal) ≡ Some p → (p.0).from ≡ Env
first_from_env net trace journal p first =
    elim (p.0).from as (λ t. (p.0).from ≡ t → (p.0).from ≡ Env) [
      | Env ↦ λ from. from
      | Sender s ↦ λ from.
          absurd
          (head_is_of_way (λ (p : Owed × Bool). p.0) (owed_by_env net trace journal) p first
          (subst
          (λ t.
          filter (λ (q : Owed × Bool). is_way t (p.0).to q.0) (owed_by_env net trace journal) ≡ [])
          (sym from) (owed_by_env_machine net trace journal s (p.0).to)))
    ] refl

pub first_of_machines_may_follow : (net : Network) (trace : List TraceItem) (journal : List Entry)
    (d : Owed) → Legal net trace journal → head_of (owed_by_machines net journal) ≡ Some d
    → MayFollow net trace journal (Dep d.from d.to d.event d.code)
first_of_machines_may_follow net trace journal d legal first =
    let from = first_from_machine net journal d first in
    head_may_follow (λ d. d) net trace journal (Sender from.0)
    (machine_deliveries net journal) d legal
    (λ m. machine_ways net trace from.0 m journal) from.1 first

pub first_of_env_may_follow : (net : Network) (trace : List TraceItem) (journal : List Entry)
    (p : Owed × Bool) → Legal net trace journal → head_of (owed_by_env net trace journal) ≡ Some p
    → MayFollow net trace journal (Dep (p.0).from (p.0).to (p.0).event (p.0).code)
first_of_env_may_follow net trace journal p legal first =
    head_may_follow (λ (p : Owed × Bool). p.0) net trace journal Env
    (trace_deliveries net false trace) p legal (λ m. env_ways net trace m journal)
    (first_from_env net trace journal p first) first
