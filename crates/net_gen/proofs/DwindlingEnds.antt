-- Each entry lowers what is still to come of a run, where deliveries dwindle.
use Rattle.std.proofs.Common.{◌≡◌, ℕ, suc, ◌+◌, ◌-◌, ◌*◌, ◌<◌, ◌≤◌, ◌&&◌, Bool, cond, nat_lt, List, [], ◌∷◌, ◌++◌, length, slice_get, Option, Some, None, IsTrue, refl, sym, subst, ap, ◌∙◌, arith, append_assoc, length-append, inl, inr}
use Rattle.std.specs.Prelude.{IsSomeAnd, find}
use Rattle.std.proofs.lemmas.Bool.{and_parts, ne_eqb, eq-eqb, ltb-true}
use Rattle.std.proofs.lemmas.Option.{slice_get_within}
use Rattle.std.proofs.lemmas.List.{append-nil}
use Rattle.transition_table.specs.Transitions.{reading, IsSnapshot, IsOutcome, Transition, OfMachine}
use Rattle.transition_table.specs.declared.decl.Party.{Party}
use Rattle.transition_table.specs.declared.decl.Party.TheVariants.{Env, Machine as Sender}
use Rattle.transition_table.specs.declared.machine.Machine.{Machine}
use Rattle.transition_table.specs.declared.network.Network.{Network}
use Rattle.transition_table.specs.declared.snapshot.Snapshot.{Snapshot}
use Rattle.transition_table.specs.declared.snapshot.Outcome.{Outcome}
use Rattle.journals.specs.declared.entry.Entry.{Entry}
use Rattle.journals.specs.declared.entry.Entry.TheVariants.{Dep, Rea}
use Rattle.journals.specs.declared.entry.Owed.{Owed}
use Rattle.journals.specs.declared.entry.TraceItem.{TraceItem}
use Rattle.journals.specs.Journals.{FitsNetwork, IsJournal, is_event_code, is_party, is_woken, sent, delivered, snap}
use Rattle.journals.specs.Laws.{GoesOnBySteps, FollowingIsLegal, StopsWhereComplete, MovesMoment, KeepsMoments, MovesWaking, MovesOwed, FirstOfWayMayFollow, SnapFits}
use Rattle.journals.specs.Legality.{Legal, MayFollow, MayGoOn}
use Rattle.journals.specs.Moved.{codes_after, machine_of, is_dep}
use Rattle.journals.specs.Schedules.{firing_deliveries, owed_by_machines, without_first, is_way}
use Rattle.net_gen.specs.Dwindling.{Load, weight, sum_below, arrivals, Dwindles, DwindlingEnds, DwindlingCompletes}
use Rattle.net_gen.proofs.SumsAndWeights.{sum_moves, sum_at_most, weight_append, weight_without, weight_taken}
use Rattle.journals.proofs.DeliveredBeginsSent.{delivered_more}
use Rattle.polis_base.proofs.Bools.{one_if_at_most_one}

-- what the proof rests on
pub record Laws : Type 0 where
  pub steps : GoesOnBySteps
  pub following : FollowingIsLegal
  pub stops : StopsWhereComplete
  pub moment : MovesMoment
  pub keeps : KeepsMoments
  pub waking : MovesWaking
  pub owed : MovesOwed
  pub way : FirstOfWayMayFollow
  pub snap_fits : SnapFits

abbrev woken : List Entry → ℕ → ℕ
woken journal m = cond (is_woken journal m) 1 0

-- how many deliveries the environment still makes to m
abbrev due : Network → List TraceItem → List Entry → ℕ → ℕ
due net trace journal m = length (sent net trace Env m []) - length (delivered Env m journal)

-- what is still to come at m, two entries for each delivery, and one where it is woken
abbrev part : Network → List TraceItem → (ℕ → List ℕ → ℕ) → List Entry → ℕ → ℕ
part net trace held journal m =
    2 * (held m (snap net journal m).codes + 9 * due net trace journal m) + woken journal m

-- what is still to come
abbrev total : Network → List TraceItem → Load → (ℕ → List ℕ → ℕ) → List Entry → ℕ
total net trace load held journal =
    2 * weight load (owed_by_machines net journal)
    + sum_below (part net trace held journal) (length net.machines)

-- ---- what one entry leaves as it is

none_elsewhere : (entry : Entry) (m : ℕ) → (machine_of entry ≡ m → ⊥)
    → delivered Env m (entry ∷ []) ≡ []
none_elsewhere (Dep Env to event code) m other = rw (ne_eqb to m other) refl
none_elsewhere (Dep (Sender s) to event code) m other = refl
none_elsewhere (Rea k s o) m other = refl

kept_delivered : (journal : List Entry) (entry : Entry) (m : ℕ)
    → delivered Env m (entry ∷ []) ≡ []
    → delivered Env m (journal ++ entry ∷ []) ≡ delivered Env m journal
kept_delivered journal entry m none =
    delivered_more Env m journal entry
    ∙ ap (λ l. delivered Env m journal ++ l) none
    ∙ append-nil (delivered Env m journal)

kept_woken : MovesWaking → (journal : List Entry) (entry : Entry) (m : ℕ)
    → (machine_of entry ≡ m → ⊥)
    → woken (journal ++ entry ∷ []) m ≡ woken journal m
kept_woken waking journal entry m other =
    ap (λ (b : Bool). cond b 1 0)
    (waking journal entry m
    ∙ ap (λ (b : Bool). cond b (is_dep entry) (is_woken journal m))
    (ne_eqb (machine_of entry) m other))

kept_part : Laws → (net : Network) (trace : List TraceItem) (held : ℕ → List ℕ → ℕ)
    (journal : List Entry) (entry : Entry) (m : ℕ)
    → (machine_of entry ≡ m → ⊥)
    → part net trace held (journal ++ entry ∷ []) m ≡ part net trace held journal m
kept_part laws net trace held journal entry m other =
    let snap_is : held m (snap net (journal ++ entry ∷ []) m).codes
    ≡ held m (snap net journal m).codes =
    ap (λ (s : Snapshot). held m s.codes) (laws.keeps net journal entry m other) in
    let due_is : due net trace (journal ++ entry ∷ []) m ≡ due net trace journal m =
    ap (λ (l : List (ℕ × ℕ)). length (sent net trace Env m []) - length l)
    (kept_delivered journal entry m (none_elsewhere entry m other)) in
    let woken_is = kept_woken laws.waking journal entry m other in
    omega arith

-- ---- what it changes

-- the snapshot of the entry's machine
held_after : Laws → (net : Network) (held : ℕ → List ℕ → ℕ) (journal : List Entry)
    (entry : Entry) (machine : Machine)
    → slice_get net.machines (machine_of entry) ≡ Some machine
    → held (machine_of entry) (snap net (journal ++ entry ∷ []) (machine_of entry)).codes
    ≡ held (machine_of entry)
    (codes_after machine entry (snap net journal (machine_of entry)).codes)
held_after laws net held journal entry machine at =
    let m = machine_of entry in
    let s : Snapshot = reading (codes_after machine entry (snap net journal m).codes) in
    ap (λ (t : Snapshot). held m t.codes)
    (sym (laws.moment net machine journal entry s (snap net journal m) at refl refl))

woken_after : MovesWaking → (journal : List Entry) (entry : Entry)
    → woken (journal ++ entry ∷ []) (machine_of entry) ≡ cond (is_dep entry) 1 0
woken_after waking journal entry =
    ap (λ (b : Bool). cond b 1 0)
    (waking journal entry (machine_of entry)
    ∙ ap (λ (b : Bool). cond b (is_dep entry) (is_woken journal (machine_of entry)))
    (eq-eqb (machine_of entry) (machine_of entry) refl))

of_machine : (net : Network) (m : ℕ) (P : Machine → Type 0) → OfMachine net m P
    → (machine : Machine) × (slice_get net.machines m ≡ Some machine) × P machine
of_machine net m P h =
    elim (slice_get net.machines m) as (λ o. slice_get net.machines m ≡ o → IsSomeAnd o P
    → (machine : Machine) × (slice_get net.machines m ≡ Some machine) × P machine) [
      | None ↦ λ e none. absurd none
      | Some machine ↦ λ e p. (machine, e, p)
    ] refl h

-- the machine that a delivery reaches, and that the event and its code are the network's
record Reached (net : Network) (journal : List Entry) (to event code : ℕ) : Type 0 where
  machine : Machine
  there : slice_get net.machines to ≡ Some machine
  below : to < length net.machines
  snapshot : IsSnapshot machine (snap net journal to)
  event_code : IsTrue (is_event_code net event code)

reached : Laws → (net : Network) (journal : List Entry) (from : Party) (to event code : ℕ)
    → IsJournal net journal → FitsNetwork net (Dep from to event code)
    → Reached net journal to event code
reached laws net journal from to event code fitting fits =
    let outer = and_parts (is_party net from && nat_lt to (length net.machines))
    (is_event_code net event code) fits in
    let inner = and_parts (is_party net from) (nat_lt to (length net.machines)) outer.0 in
    let below : to < length net.machines = ltb-true to (length net.machines) inner.1 in
    let found = of_machine net to (λ machine. IsSnapshot machine (snap net journal to))
    (laws.snap_fits net journal to fitting below) in
    record {
      machine = found.0;
      there = found.1;
      below = below;
      snapshot = found.2;
      event_code = outer.1;
    }

-- what a delivery adds at its machine
held_grows : Laws → (net : Network) (load : Load) (held : ℕ → List ℕ → ℕ)
    → Dwindles net load held
    → (journal : List Entry) (from : Party) (to event code : ℕ)
    → Reached net journal to event code
    → held to (snap net (journal ++ Dep from to event code ∷ []) to).codes
    ≤ held to (snap net journal to).codes + load event code
held_grows laws net load held dwindles journal from to event code r =
    let same = held_after laws net held journal (Dep from to event code) r.machine r.there in
    let more = dwindles.brought to event code r.machine from (snap net journal to).codes r.there
    r.snapshot r.event_code in
    omega arith

env_step : Laws → (net : Network) (trace : List TraceItem) (load : Load)
    (held : ℕ → List ℕ → ℕ)
    → Dwindles net load held
    → (journal : List Entry) (to event code : ℕ)
    → Legal net trace journal
    → FitsNetwork net (Dep Env to event code)
    → MayFollow net trace journal (Dep Env to event code)
    → total net trace load held (journal ++ Dep Env to event code ∷ []) + 1
    ≤ total net trace load held journal
env_step laws net trace load held dwindles journal to event code legal fits may =
    let entry : Entry = Dep Env to event code in
    let after : List Entry = journal ++ entry ∷ [] in
    let ds : List Owed = owed_by_machines net journal in
    let r = reached laws net journal Env to event code legal.0 fits in
    let left : owed_by_machines net after ≡ without_first (is_way Env to) ds =
    laws.owed net trace journal entry legal
    ∙ ap (λ (l : List Owed). without_first (is_way Env to) l) (append-nil ds) in
    let weights : weight load (owed_by_machines net after) ≤ weight load ds =
    let e = ap (weight load) left in
    let b = weight_without load (is_way Env to) ds in omega arith in
    let grows = held_grows laws net load held dwindles journal Env to event code r in
    let light = dwindles.light event code r.event_code in
    let one : delivered Env to (entry ∷ []) ≡ (event, code) ∷ [] = rw (eq-eqb to to refl) refl in
    let more : length (delivered Env to after) ≡ length (delivered Env to journal) + 1 =
    ap length (delivered_more Env to journal entry
    ∙ ap (λ (l : List (ℕ × ℕ)). delivered Env to journal ++ l) one)
    ∙ length-append (delivered Env to journal) ((event, code) ∷ []) in
    let within : length (sent net trace Env to [])
    ≡ length (delivered Env to after) + length may.0 =
    ap length may.1 ∙ length-append (delivered Env to after) may.0 in
    let awake = one_if_at_most_one (is_woken after to) in
    let here : part net trace held after to + 1 ≤ part net trace held journal to + 0 =
    omega arith in
    let sums = sum_moves (part net trace held journal) (part net trace held after)
    (length net.machines) to 1 0 (λ m other. kept_part laws net trace held journal entry m other)
    r.below here in
    omega arith

machine_step : Laws → (net : Network) (trace : List TraceItem) (load : Load)
    (held : ℕ → List ℕ → ℕ)
    → Dwindles net load held
    → (journal : List Entry) (s to event code : ℕ)
    → Legal net trace journal
    → FitsNetwork net (Dep (Sender s) to event code)
    → MayFollow net trace journal (Dep (Sender s) to event code)
    → total net trace load held (journal ++ Dep (Sender s) to event code ∷ []) + 1
    ≤ total net trace load held journal
machine_step laws net trace load held dwindles journal s to event code legal fits may =
    let entry : Entry = Dep (Sender s) to event code in
    let after : List Entry = journal ++ entry ∷ [] in
    let ds : List Owed = owed_by_machines net journal in
    let r = reached laws net journal (Sender s) to event code legal.0 fits in
    let d : Owed = record { from = Sender s; to = to; event = event; code = code } in
    let left : owed_by_machines net after ≡ without_first (is_way (Sender s) to) ds =
    laws.owed net trace journal entry legal
    ∙ ap (λ (l : List Owed). without_first (is_way (Sender s) to) l) (append-nil ds) in
    let found : find (is_way (Sender s) to) ds ≡ Some d =
    (laws.way net trace journal s to event code legal).0 may in
    let weights : weight load (owed_by_machines net after) + suc (load event code)
    ≡ weight load ds =
    let e = ap (weight load) left in
    let t = weight_taken load (is_way (Sender s) to) d ds found in omega arith in
    let grows = held_grows laws net load held dwindles journal (Sender s) to event code r in
    let same : due net trace after to ≡ due net trace journal to =
    ap (λ (l : List (ℕ × ℕ)). length (sent net trace Env to []) - length l)
    (kept_delivered journal entry to refl) in
    let awake = one_if_at_most_one (is_woken after to) in
    let more : ℕ = 2 * load event code + 1 in
    let here : part net trace held after to + 0 ≤ part net trace held journal to + more =
    omega arith in
    let sums = sum_moves (part net trace held journal) (part net trace held after)
    (length net.machines) to 0 more
    (λ m other. kept_part laws net trace held journal entry m other) r.below here in
    omega arith

reaction_step : Laws → (net : Network) (trace : List TraceItem) (load : Load)
    (held : ℕ → List ℕ → ℕ)
    → Dwindles net load held
    → (journal : List Entry) (m : ℕ) (s : Snapshot) (o : Outcome)
    → Legal net trace journal
    → FitsNetwork net (Rea m s o)
    → MayFollow net trace journal (Rea m s o)
    → total net trace load held (journal ++ Rea m s o ∷ []) + 1
    ≤ total net trace load held journal
reaction_step laws net trace load held dwindles journal m s o legal fits may =
    let entry : Entry = Rea m s o in
    let after : List Entry = journal ++ entry ∷ [] in
    let ds : List Owed = owed_by_machines net journal in
    let found = of_machine net m (λ machine. Transition machine s o) may.2 in
    let machine : Machine = found.0 in
    let snapshot : IsSnapshot machine s =
    (subst (λ (x : Option Machine). IsSomeAnd x
    (λ machine. IsSnapshot machine s × IsOutcome machine o))
    found.1 fits).0 in
    let below : m < length net.machines = slice_get_within net.machines m machine found.1 in
    let fired : ℕ = weight load (firing_deliveries net entry) in
    let weights : weight load (owed_by_machines net after) ≡ weight load ds + fired =
    ap (weight load) (laws.owed net trace journal entry legal)
    ∙ weight_append load ds (firing_deliveries net entry) in
    let gives = dwindles.reacted m machine s o found.1 snapshot found.2 in
    let held_is : held m (snap net after m).codes ≡ held m (codes_after machine entry s.codes) =
    held_after laws net held journal entry machine found.1
    ∙ ap (λ (t : Snapshot). held m (codes_after machine entry t.codes)) (sym may.1) in
    let held_was : held m s.codes ≡ held m (snap net journal m).codes =
    ap (λ (t : Snapshot). held m t.codes) may.1 in
    let same : due net trace after m ≡ due net trace journal m =
    ap (λ (l : List (ℕ × ℕ)). length (sent net trace Env m []) - length l)
    (kept_delivered journal entry m refl) in
    let asleep : woken after m ≡ 0 = woken_after laws.waking journal entry in
    let awake : woken journal m ≡ 1 = ap (λ (b : Bool). cond b 1 0) may.0 in
    let less : ℕ = 2 * fired + 1 in
    let here : part net trace held after m + less ≤ part net trace held journal m + 0 =
    omega arith in
    let sums = sum_moves (part net trace held journal) (part net trace held after)
    (length net.machines) m less 0
    (λ k other. kept_part laws net trace held journal entry k other) below here in
    omega arith

step : Laws → (net : Network) (trace : List TraceItem) (load : Load)
    (held : ℕ → List ℕ → ℕ)
    → Dwindles net load held
    → (journal : List Entry) (entry : Entry)
    → Legal net trace journal
    → FitsNetwork net entry
    → MayFollow net trace journal entry
    → total net trace load held (journal ++ entry ∷ []) + 1 ≤ total net trace load held journal
step laws net trace load held dwindles journal (Dep Env to event code) =
    env_step laws net trace load held dwindles journal to event code
step laws net trace load held dwindles journal (Dep (Sender s) to event code) =
    machine_step laws net trace load held dwindles journal s to event code
step laws net trace load held dwindles journal (Rea m s o) =
    reaction_step laws net trace load held dwindles journal m s o

-- ---- a whole journal

falls : Laws → (net : Network) (trace : List TraceItem) (load : Load)
    (held : ℕ → List ℕ → ℕ)
    → Dwindles net load held
    → (before entries : List Entry)
    → Legal net trace before
    → IsJournal net entries
    → MayGoOn net trace before entries
    → total net trace load held (before ++ entries) + length entries
    ≤ total net trace load held before
falls laws net trace load held dwindles before [] legal fitting may =
    let e = ap (total net trace load held) (append-nil before) in omega arith
falls laws net trace load held dwindles before (entry ∷ rest) legal fitting may =
    let first = step laws net trace load held dwindles before entry legal fitting.0 may.0 in
    let next : Legal net trace (before ++ entry ∷ []) =
    (laws.steps net trace before entry).1 (legal, fitting.0, may.0) in
    let others = falls laws net trace load held dwindles (before ++ entry ∷ []) rest next fitting.1
    may.1 in
    let same = ap (total net trace load held) (append_assoc before (entry ∷ []) rest) in
    omega arith

at_start : Laws → (net : Network) (trace : List TraceItem) (load : Load) (held : ℕ → List ℕ → ℕ)
    → Dwindles net load held
    → total net trace load held [] ≤ 18 * arrivals net trace
at_start laws net trace load held dwindles =
    let sums = sum_at_most (part net trace held []) (λ m. length (sent net trace Env m []))
    (length net.machines) each in
    omega arith
  where
    each : (m : ℕ) → m < length net.machines
        → part net trace held [] m ≤ 18 * length (sent net trace Env m [])
    each m below =
        let found = of_machine net m (λ machine. IsSnapshot machine (snap net [] m))
        (laws.snap_fits net [] m tt below) in
        let empty : held m (snap net [] m).codes ≡ 0 = dwindles.fresh m found.0 found.1 in
        omega arith

pub dwindling_ends : Laws → DwindlingEnds
dwindling_ends laws net trace load held journal dwindles legal =
    let down = falls laws net trace load held dwindles [] journal (tt, tt) legal.0 legal.1 in
    let start = at_start laws net trace load held dwindles in
    omega arith

pub dwindling_completes : Laws → DwindlingCompletes
dwindling_completes laws net trace load held limit journal dwindles fits above schedule =
    let legal : Legal net trace journal =
    laws.following net trace journal 0 fits (tt, tt) schedule.follows in
    let few = dwindling_ends laws net trace load held journal dwindles legal in
    elim schedule.whole [
      | inl long ↦ absurd (let e = long in omega arith)
      | inr stopped ↦ (laws.stops net trace journal legal).0 stopped.1
    ]
