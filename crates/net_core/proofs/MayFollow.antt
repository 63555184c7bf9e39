-- What may land, and which outcome is the machine's.
use Rattle.std.specs.Prelude.{◌≡◌, ◌↔◌, ℕ, Bool, true, false, ◌&&◌, ◌==◌, List, slice_get, Option, Some, None, find, IsTrue, IsSomeAnd}
use Rattle.std.proofs.Common.{refl, sym, ap, ◌∙◌, subst}
use Rattle.std.proofs.lemmas.Bool.{eqb-true, eq-eqb, and_parts, and_from, both_ways}
use Rattle.transition_table.specs.Transitions.{OfMachine, IsSnapshot, Transition, AreDeterministic, IsOutcome}
use Rattle.transition_table.specs.declared.decl.Party.{Party}
use Rattle.transition_table.specs.declared.decl.Party.TheVariants.{Env, Machine as Sender}
use Rattle.transition_table.specs.declared.machine.Machine.{Machine}
use Rattle.transition_table.specs.declared.network.Network.{Network}
use Rattle.transition_table.specs.declared.snapshot.Snapshot.{Snapshot}
use Rattle.transition_table.specs.declared.snapshot.Outcome.{Outcome}
use Rattle.journals.specs.declared.entry.Entry.{Entry}
use Rattle.journals.specs.declared.entry.Entry.TheVariants.{Dep, Rea}
use Rattle.journals.specs.declared.entry.Owed.{Owed}
use Rattle.journals.specs.declared.entry.TraceItem.{TraceItem}
use Rattle.journals.specs.declared.entry.TraceItem.TheVariants.{Event}
use Rattle.net_core.specs.declared.answer.Why.TheVariants.{NotOwed, NotWoken, Snapshot as OldSnapshot, Outcome as OtherOutcome}
use Rattle.net_core.specs.Judging.{IsCauseAgainst, IsFirstCause}
use Rattle.net_core.specs.inner.Outcomes.{SaysOutcome}
use Rattle.journals.specs.Journals.{is_woken, snap}
use Rattle.journals.specs.Legality.{Legal, MayFollow, MayFollowIfReaction}
use Rattle.journals.specs.Schedules.{owed_by_machines, is_way, event_code}
use Rattle.journals.specs.Cursors.{cursor}
use Rattle.transition_table.specs.Laws.{OneOutcome}
use Rattle.journals.specs.Laws.{FirstOfWayMayFollow, AtCursorMayFollow}
use Rattle.journals.proofs.FirstOfWay.{owed_is, find_passes}

-- ---- deliveries

-- of the environment: the item at the receiver's cursor
pub env_lands : (net : Network) (trace : List TraceItem) (journal : List Entry) (from : Party)
    (to e c place : ℕ) (b : Bool) → AtCursorMayFollow → Legal net trace journal → from ≡ Env
    → place ≡ cursor net trace journal to
    → (IsTrue b ↔ (slice_get trace place ≡ Some (Event e c))) → IsTrue b
    ↔ MayFollow net trace journal (Dep from to e c)
env_lands net trace journal from to e c place b law legal env at says =
    let next = law net trace journal to e c legal in
    let item = λ (k : ℕ). slice_get trace k ≡ Some (Event e c) in
    subst (λ (s : Party). IsTrue b ↔ MayFollow net trace journal (Dep s to e c)) (sym env)
    ((λ h. next.1 (subst item at (says.0 h))), (λ h. says.1 (subst item (sym at) (next.0 h))))

found_lands : (net : Network) (trace : List TraceItem) (journal : List Entry) (s to e c : ℕ)
    (d : Owed) → FirstOfWayMayFollow → Legal net trace journal
    → find (is_way (Sender s) to) (owed_by_machines net journal) ≡ Some d
    → IsTrue (d.event == e && d.code == c) ↔ MayFollow net trace journal (Dep (Sender s) to e c)
found_lands net trace journal s to e c d law legal found =
    let next = law net trace journal s to e c legal in
    let way = find_passes (is_way (Sender s) to) (owed_by_machines net journal) d found in (
      (λ h.
          let parts = and_parts (d.event == e) (d.code == c) h in
          let same : event_code d ≡ (e, c) =
          rw (eqb-true d.event e parts.0, eqb-true d.code c parts.1) refl in
          next.1 (found ∙ ap Some (owed_is d (Sender s) to e c way same))),
      (λ h.
          let is : d ≡ record { from = Sender s; to = to; event = e; code = c } =
          (let other = next.0 h in cc) in
          and_from (d.event == e) (d.code == c) (eq-eqb d.event e (ap (λ (o : Owed). o.event) is))
          (eq-eqb d.code c (ap (λ (o : Owed). o.code) is))),
    )

-- of a machine: the first of those owed from it to the receiver
pub machine_lands : (net : Network) (trace : List TraceItem) (journal : List Entry)
    (owed : List Owed) (from : Party) (s to e c : ℕ) (found : Option Owed) (d : Owed)
    → FirstOfWayMayFollow → Legal net trace journal → from ≡ Sender s
    → owed ≡ owed_by_machines net journal
    → found ≡ find (is_way (Sender s) to) owed
    → found ≡ Some d → IsTrue (d.event == e && d.code == c)
    ↔ MayFollow net trace journal (Dep from to e c)
machine_lands net trace journal owed from s to e c found d law legal sender are at is =
    let first : find (is_way (Sender s) to) (owed_by_machines net journal) ≡ Some d =
    ap (find (is_way (Sender s) to)) (sym are) ∙ sym at ∙ is in
    subst (λ (t : Party). IsTrue (d.event == e && d.code == c)
    ↔ MayFollow net trace journal (Dep t to e c)) (sym sender)
    (found_lands net trace journal s to e c d law legal first)

pub machine_owes_none : (net : Network) (trace : List TraceItem) (journal : List Entry)
    (owed : List Owed) (from : Party) (s to e c : ℕ) (found : Option Owed) → FirstOfWayMayFollow
    → Legal net trace journal → from ≡ Sender s → owed ≡ owed_by_machines net journal
    → found ≡ find (is_way (Sender s) to) owed
    → found ≡ None → IsTrue false ↔ MayFollow net trace journal (Dep from to e c)
machine_owes_none net trace journal owed from s to e c found law legal sender are at is =
    let none : find (is_way (Sender s) to) (owed_by_machines net journal) ≡ None =
    ap (find (is_way (Sender s) to)) (sym are) ∙ sym at ∙ is in
    let next = law net trace journal s to e c legal in
    subst (λ (t : Party). IsTrue false ↔ MayFollow net trace journal (Dep t to e c)) (sym sender)
    ((λ h. absurd (let no : false ≡ true = h in cc)), (λ h. absurd (let some = next.0 h in cc)))

pub not_owed : (net : Network) (trace : List TraceItem) (journal : List Entry) (entry : Entry)
    (from : Party) (to e c : ℕ) (b : Bool) → entry ≡ Dep from to e c
    → (IsTrue b ↔ MayFollow net trace journal (Dep from to e c)) → b ≡ false
    → IsFirstCause net trace journal NotOwed entry
not_owed net trace journal entry from to e c b is says fails =
    subst (λ (x : Entry). IsFirstCause net trace journal NotOwed x) (sym is)
    (λ h. both_ways b fails (says.1 h))

-- ---- reactions

pub reacts_if_told : (net : Network) (trace : List TraceItem) (journal : List Entry)
    (entry : Entry) (m : ℕ) (s : Snapshot) (o : Outcome) → entry ≡ Rea m s o
    → MayFollowIfReaction net trace journal entry → IsCauseAgainst net trace journal entry None
reacts_if_told net trace journal entry m s o is told =
    subst (λ (e : Entry). MayFollow net trace journal e) (sym is)
    (subst (λ (e : Entry). MayFollowIfReaction net trace journal e) is told)

pub not_woken : (net : Network) (trace : List TraceItem) (journal : List Entry) (entry : Entry)
    (m : ℕ) (s : Snapshot) (o : Outcome) → entry ≡ Rea m s o → is_woken journal m ≡ false
    → IsCauseAgainst net trace journal entry (Some NotWoken)
not_woken net trace journal entry m s o is asleep =
    subst (λ (e : Entry). IsFirstCause net trace journal NotWoken e) (sym is) asleep

pub other_snapshot : (net : Network) (trace : List TraceItem) (journal : List Entry)
    (entry : Entry) (m : ℕ) (s : Snapshot) (o : Outcome) → entry ≡ Rea m s o
    → is_woken journal m ≡ true → (s ≡ snap net journal m → ⊥)
    → IsCauseAgainst net trace journal entry (Some OldSnapshot)
other_snapshot net trace journal entry m s o is woken other =
    subst (λ (e : Entry). IsFirstCause net trace journal OldSnapshot e) (sym is) (woken, other)

pub other_outcome : (net : Network) (trace : List TraceItem) (journal : List Entry)
    (entry : Entry) (m : ℕ) (s : Snapshot) (o : Outcome) (b : Bool) → entry ≡ Rea m s o
    → is_woken journal m ≡ true → s ≡ snap net journal m → SaysOutcome net entry b → b ≡ false
    → IsCauseAgainst net trace journal entry (Some OtherOutcome)
other_outcome net trace journal entry m s o b is woken same says wrong =
    let told = subst (λ (e : Entry). SaysOutcome net e b) is says in
    subst (λ (e : Entry). IsFirstCause net trace journal OtherOutcome e) (sym is)
    (woken, same, (λ h. both_ways b wrong (told.1 h)))

pub reacts : (net : Network) (trace : List TraceItem) (journal : List Entry) (entry : Entry)
    (m : ℕ) (s : Snapshot) (o : Outcome) (b : Bool) → entry ≡ Rea m s o
    → is_woken journal m ≡ true → s ≡ snap net journal m → SaysOutcome net entry b → b ≡ true
    → IsCauseAgainst net trace journal entry None
reacts net trace journal entry m s o b is woken same says right =
    let told = subst (λ (e : Entry). SaysOutcome net e b) is says in
    subst (λ (e : Entry). MayFollow net trace journal e) (sym is) (woken, same, told.0 right)

-- ---- outcomes

pub snapshot_fits : (found : Option Machine) (s : Snapshot) (o : Outcome)
    → IsSomeAnd found (λ machine. IsSnapshot machine s × IsOutcome machine o)
    → IsSomeAnd found (λ machine. IsSnapshot machine s)
snapshot_fits None s o h = h
snapshot_fits (Some machine) s o h = h.0

pub outcomes_agree : OneOutcome → (net : Network) (m : ℕ) (s : Snapshot) (o p q : Outcome)
    → AreDeterministic net → OfMachine net m (λ machine. IsSnapshot machine s × IsOutcome machine q)
    → OfMachine net m (λ machine. Transition machine s o)
    → OfMachine net m (λ machine. Transition machine s p) → o ≡ p
outcomes_agree one net m s o p q all fits first second =
    at (slice_get net.machines m) refl fits first second
  where
    at : (found : Option Machine) → slice_get net.machines m ≡ found
        → IsSomeAnd found (λ machine. IsSnapshot machine s × IsOutcome machine q)
        → IsSomeAnd found (λ machine. Transition machine s o)
        → IsSomeAnd found (λ machine. Transition machine s p) → o ≡ p
    at None is f a b = absurd a
    at (Some machine) is f a b = one machine s o p (all m machine is) f.0 a b
