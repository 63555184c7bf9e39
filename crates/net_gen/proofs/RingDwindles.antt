-- The network of a ring dwindles.
use Rattle.std.proofs.Common.{◌≡◌, ℕ, suc, ◌+◌, ◌-◌, ◌*◌, ◌/◌, ◌%◌, ◌<◌, ◌≤◌, ◌==◌, ◌&&◌, nat_lt, Bool, true, false, cond, List, [], ◌∷◌, ◌++◌, map, flat_map, length, Option, Some, IsTrue, refl, ap, ◌∙◌, subst, arith, inl, inr}
use Rattle.std.specs.Prelude.{slice_get, option_map, unwrap_or, nat_le, if◌then◌else◌}
use Rattle.std.proofs.lemmas.Bool.{and_parts, cases_eq, ltb-true, leb-true, eq-eqb, eqb-true, ne_eqb}
use Rattle.std.proofs.lemmas.Option.{slice_get_within}
use Rattle.polis_base.specs.Lists.{upto}
use Rattle.domains.specs.Tables.{fits}
use Rattle.transition_table.specs.NetworkFacts.{event_values, values_of}
use Rattle.transition_table.specs.samples.Parts.{gives}
use Rattle.transition_table.specs.Transitions.{reading, Transition, actions, codes_given}
use Rattle.transition_table.specs.declared.decl.EventDecl.{EventDecl}
use Rattle.transition_table.specs.declared.decl.Party.{Party}
use Rattle.transition_table.specs.declared.decl.Party.TheVariants.{Machine as Sender}
use Rattle.transition_table.specs.declared.row.Act.{Act}
use Rattle.transition_table.specs.declared.machine.Machine.{Machine}
use Rattle.transition_table.specs.declared.network.Network.{Network}
use Rattle.transition_table.specs.declared.snapshot.Snapshot.{Snapshot}
use Rattle.transition_table.specs.declared.snapshot.Outcome.{Outcome}
use Rattle.journals.specs.declared.entry.Entry.TheVariants.{Dep, Rea}
use Rattle.journals.specs.Journals.{emitted, is_event_code, outputs_of, buffered, snap, state, states_of}
use Rattle.journals.specs.Moved.{codes_after}
use Rattle.journals.specs.Schedules.{deliveries_of, firing_deliveries, receivers_of}
use Rattle.polis_base.specs.Draws.{after}
use Rattle.net_gen.specs.Events.{next_machine, HasDemoEvents}
use Rattle.net_gen.specs.Demos.{IsDemoMachine}
use Rattle.net_gen.specs.Dwindling.{Dwindles, weight}
use Rattle.net_gen.specs.Ended.{demo_load, demo_held}
use Rattle.net_gen.proofs.EnabledRows.{Fires, enabled_fires, three_codes}
use Rattle.net_gen.proofs.HasDemoEvents.{next_below}

-- ---- loads

load_tick : (i c : ℕ) → demo_load (3 * i) c ≡ 8
load_tick i c = let e : 3 * i % 3 ≡ 0 = omega arith in rw e refl

load_valued : (i c : ℕ) → demo_load (3 * i + 1) c ≡ c - 1
load_valued i c = let e : (3 * i + 1) % 3 ≡ 1 = omega arith in rw e refl

-- what a tick with this code may lead to
abbrev tick_part : ℕ → ℕ
tick_part t = if t == 0 then 0 else 8

few_of_tick : (t : ℕ) → tick_part t ≤ 8
few_of_tick t = elim (t == 0) as (λ b. (if b then 0 else 8) ≤ 8) [
  | true ↦ omega arith
  | false ↦ omega arith
]

-- ---- codes after an entry

held_fired : (machine : Machine) (m t e v : ℕ) (s : Snapshot) (o : Outcome)
    → length machine.inputs ≡ 2 → o.fires ≡ true
    → demo_held m (codes_after machine (Rea m s o) (t ∷ e ∷ v ∷ [])) ≡ 0
held_fired machine m t e v s o two fires = rw (fires, two) refl

held_quiet : (machine : Machine) (m t e v : ℕ) (s : Snapshot) (o : Outcome) → o.fires ≡ false
    → demo_held m (codes_after machine (Rea m s o) (t ∷ e ∷ v ∷ []))
    ≡ demo_held m (t ∷ e ∷ v ∷ [])
held_quiet machine m t e v s o quiet = rw quiet refl

held_brought : (machine : Machine) (m p q t e v event c : ℕ) (s : Party)
    → machine.inputs ≡ p ∷ q ∷ []
    → demo_held m (codes_after machine (Dep s m event c) (t ∷ e ∷ v ∷ []))
    ≡ tick_part (cond (event == p) c t) + (cond (event == q) c e - 1)
held_brought machine m p q t e v event c s inputs = rw inputs refl

-- ---- what a firing sends

outs_are : (machine : Machine) (codes : List ℕ) (acts : List Act)
    → length machine.states ≡ 1 → length machine.outputs ≡ 2
    → codes_given machine codes acts (1 + length machine.states) (length machine.outputs)
    ≡ codes_given machine codes acts 2 2
outs_are machine codes acts one two =
    ap (λ (k : ℕ). codes_given machine codes acts (1 + k) (length machine.outputs)) one
    ∙ ap (codes_given machine codes acts 2) two

sent_are : (net : Network) (m : ℕ) (s : Snapshot) (o : Outcome) (events outs : List ℕ)
    → o.fires ≡ true → outputs_of net m ≡ events → o.outs ≡ outs
    → firing_deliveries net (Rea m s o)
    ≡ flat_map (deliveries_of net (Sender m)) (emitted events outs)
sent_are net m s o events outs fires sends gives = rw (fires, sends, gives) refl

sent_none : (net : Network) (m : ℕ) (s : Snapshot) (o : Outcome) → o.fires ≡ false
    → firing_deliveries net (Rea m s o) ≡ []
sent_none net m s o quiet = rw quiet refl

-- ---- the network of a ring

module _ (n x : ℕ) (net : Network) (events : HasDemoEvents n net)
    (machines : (i : ℕ) (machine : Machine) → slice_get net.machines i ≡ Some machine
    → IsDemoMachine n i (after x (25 * i)) machine) where
  within : (i : ℕ) (machine : Machine) → slice_get net.machines i ≡ Some machine → i < n
  within i machine at =
      let below = slice_get_within net.machines i machine at in
      let long = events.machines in omega arith

  value_reaches : (i : ℕ) → i < n → receivers_of net (3 * i + 1) ≡ i ∷ []
  value_reaches i below =
      ap (λ (o : Option EventDecl). unwrap_or (option_map (λ event. event.receivers) o) [])
      (events.valued_is i below)

  output_reaches : (i : ℕ) → i < n → receivers_of net (3 * i + 2) ≡ []
  output_reaches i below =
      ap (λ (o : Option EventDecl). unwrap_or (option_map (λ event. event.receivers) o) [])
      (events.output_is i below)

  starts_empty : (m : ℕ) (machine : Machine) → slice_get net.machines m ≡ Some machine
      → demo_held m (snap net [] m).codes ≡ 0
  starts_empty m machine at =
      ap (λ (l : List ℕ). demo_held m (map (buffered [] m) l
      ++ map (state net [] m) (upto (length (states_of net m)))))
      (events.reads m (within m machine at))

  -- a value k that is sent on weighs 1 + k
  value_weighs : (m k : ℕ) → m < n
      → weight demo_load (flat_map (deliveries_of net (Sender m))
      (emitted ((3 * next_machine n m + 1) ∷ (3 * m + 2) ∷ []) ((1 + k) ∷ 0 ∷ [])))
      ≡ 1 + k
  value_weighs m k below =
      let j : ℕ = next_machine n m in
      let next : j < n = next_below n m (omega arith) in
      ap (λ (c : ℕ). weight demo_load (flat_map (deliveries_of net (Sender m))
      (emitted ((3 * j + 1) ∷ (3 * m + 2) ∷ []) (c ∷ 0 ∷ []))))
      (let e : 1 + k ≡ suc k = omega arith in e)
      ∙ ap (λ (l : List ℕ). weight demo_load
      (map (λ i. record { from = Sender m; to = i; event = 3 * j + 1; code = suc k }) l ++ []))
      (value_reaches j next)
      ∙ (let load = load_valued j (suc k) in
      let e : suc (demo_load (3 * j + 1) (suc k)) + 0 ≡ 1 + k = omega arith in e)

  output_weighs : (m : ℕ) → m < n
      → weight demo_load (flat_map (deliveries_of net (Sender m))
      (emitted ((3 * next_machine n m + 1) ∷ (3 * m + 2) ∷ []) (0 ∷ 1 ∷ [])))
      ≡ 0
  output_weighs m below =
      ap (λ (l : List ℕ). weight demo_load
      (map (λ i. record { from = Sender m; to = i; event = 3 * m + 2; code = 1 }) l ++ []))
      (output_reaches m below)

  -- a firing sends at most what the codes hold
  row_sends : (m r t e v : ℕ) (machine : Machine) (acts : List Act) → m < n
      → Fires r t e v acts
      → weight demo_load (flat_map (deliveries_of net (Sender m))
      (emitted ((3 * next_machine n m + 1) ∷ (3 * m + 2) ∷ [])
      (codes_given machine (t ∷ e ∷ v ∷ []) acts 2 2)))
      ≤ demo_held m (t ∷ e ∷ v ∷ [])
  row_sends m r t e v machine acts below (inl f) =
      let sent = ap (λ (l : List Act). weight demo_load (flat_map (deliveries_of net (Sender m))
      (emitted ((3 * next_machine n m + 1) ∷ (3 * m + 2) ∷ [])
      (codes_given machine (t ∷ e ∷ v ∷ []) l 2 2)))) f.gives_these
      ∙ value_weighs m f.b below in
      let had : tick_part t ≡ 8 = ap tick_part f.tick in
      let small = f.small in
      omega arith
  row_sends m r t e v machine acts below (inr (inl f)) =
      let sent = ap (λ (l : List Act). weight demo_load (flat_map (deliveries_of net (Sender m))
      (emitted ((3 * next_machine n m + 1) ∷ (3 * m + 2) ∷ [])
      (codes_given machine (t ∷ e ∷ v ∷ []) l 2 2)))) f.gives_these
      ∙ value_weighs m f.k below in
      let had = f.value in
      omega arith
  row_sends m r t e v machine acts below (inr (inr f)) =
      let sent = ap (λ (l : List Act). weight demo_load (flat_map (deliveries_of net (Sender m))
      (emitted ((3 * next_machine n m + 1) ∷ (3 * m + 2) ∷ [])
      (codes_given machine (t ∷ e ∷ v ∷ []) l 2 2)))) f.gives_these
      ∙ output_weighs m below in
      omega arith

  reacts : (m : ℕ) (machine : Machine) → slice_get net.machines m ≡ Some machine
      → (t e v : ℕ) → t < 2 → e < 9 → v < 8 → (o : Outcome)
      → Transition machine (reading (t ∷ e ∷ v ∷ [])) o
      → demo_held m (codes_after machine (Rea m (reading (t ∷ e ∷ v ∷ [])) o) (t ∷ e ∷ v ∷ []))
      + weight demo_load (firing_deliveries net (Rea m (reading (t ∷ e ∷ v ∷ [])) o))
      ≤ demo_held m (t ∷ e ∷ v ∷ [])
  reacts m machine at t e v small_t small_e small_v o (inl fired) =
      let s : Snapshot = reading (t ∷ e ∷ v ∷ []) in
      let r : ℕ = fired.0 in
      let is = machines m machine at in
      let acts : List Act = actions (slice_get machine.rows r) in
      let below : m < n = within m machine at in
      let fires : o.fires ≡ true = ap (λ (p : Outcome). p.fires) fired.2 in
      let outs : o.outs ≡ codes_given machine (t ∷ e ∷ v ∷ []) acts 2 2 =
      ap (λ (p : Outcome). p.outs) fired.2
      ∙ outs_are machine (t ∷ e ∷ v ∷ []) acts (ap length is.states) (ap length is.outputs) in
      let empty = held_fired machine m t e v s o (ap length is.inputs) fires in
      let sent = ap (weight demo_load)
      (sent_are net m s o ((3 * next_machine n m + 1) ∷ (3 * m + 2) ∷ [])
      (codes_given machine (t ∷ e ∷ v ∷ []) acts 2 2) fires (events.sends m below) outs) in
      let few = row_sends m r t e v machine acts below
      (enabled_fires n m (after x (25 * m)) machine is r t e v fired.1) in
      omega arith
  reacts m machine at t e v small_t small_e small_v o (inr idle) =
      let s : Snapshot = reading (t ∷ e ∷ v ∷ []) in
      let quiet : o.fires ≡ false = ap (λ (p : Outcome). p.fires) idle.1 in
      let same = held_quiet machine m t e v s o quiet in
      let none = ap (weight demo_load) (sent_none net m s o quiet) in
      omega arith

  -- a delivery adds at most its load
  adds : (m event c : ℕ) (machine : Machine) (s : Party)
      → slice_get net.machines m ≡ Some machine
      → (t e v : ℕ) → t < 2 → e < 9 → v < 8
      → demo_held m (codes_after machine (Dep s m event c) (t ∷ e ∷ v ∷ []))
      ≤ demo_held m (t ∷ e ∷ v ∷ []) + demo_load event c
  adds m event c machine s at t e v small_t small_e small_v =
      let is = machines m machine at in
      let held = held_brought machine m (3 * m) (3 * m + 1) t e v event c s is.inputs in
      let most = few_of_tick c in
      elim (cases_eq event (3 * m)) [
        | inl tick ↦
            let here : (event == 3 * m) ≡ true = eq-eqb event (3 * m) tick in
            let there : (event == 3 * m + 1) ≡ false =
            ne_eqb event (3 * m + 1) (λ q. omega arith) in
            let load : demo_load event c ≡ 8 =
            ap (λ (k : ℕ). demo_load k c) tick ∙ load_tick m c in
            let first = ap (λ b. tick_part (cond b c t)) here in
            let second = ap (λ b. cond b c e) there in
            omega arith
        | inr other ↦
            let here : (event == 3 * m) ≡ false = ne_eqb event (3 * m) other in
            let first = ap (λ b. tick_part (cond b c t)) here in
            elim (cases_eq event (3 * m + 1)) [
              | inl valued ↦
                  let there : (event == 3 * m + 1) ≡ true = eq-eqb event (3 * m + 1) valued in
                  let load : demo_load event c ≡ c - 1 =
                  ap (λ (k : ℕ). demo_load k c) valued ∙ load_valued m c in
                  let second = ap (λ b. cond b c e) there in
                  omega arith
              | inr neither ↦
                  let there : (event == 3 * m + 1) ≡ false =
                  ne_eqb event (3 * m + 1) neither in
                  let second = ap (λ b. cond b c e) there in
                  omega arith
            ]
      ]

  few_codes : (e c : ℕ) → is_event_code net e c ≡ true → e % 3 ≡ 1 → c ≤ 8
  few_codes e c known valued =
      let outer = and_parts (nat_lt e (length net.events) && nat_le 1 c)
      (nat_le c (event_values net.domains net.events e)) known in
      let inner = and_parts (nat_lt e (length net.events)) (nat_le 1 c) outer.0 in
      let most = leb-true c (event_values net.domains net.events e) outer.1 in
      let below = ltb-true e (length net.events) inner.0 in
      let long = events.events in
      let i : ℕ = e / 3 in
      let is : e ≡ 3 * i + 1 = omega arith in
      let size : event_values net.domains net.events e ≡ 8 =
      ap (event_values net.domains net.events) is
      ∙ ap (λ (o : Option EventDecl).
      unwrap_or (option_map (λ event. values_of net.domains event.domain) o) 0)
      (events.valued_is i (omega arith))
      ∙ events.values in
      omega arith

  loads_few : (e c : ℕ) → is_event_code net e c ≡ true → demo_load e c ≤ 8
  loads_few e c known = by (e % 3 == 0) (e % 3 == 1) refl
    where
      by : (a b : Bool) → (e % 3 == 1) ≡ b
          → (if a then 8 else if b then c - 1 else 0) ≤ 8
      by true b is = omega arith
      by false true is =
          let few = few_codes e c known (eqb-true (e % 3) 1 is) in omega arith
      by false false is = omega arith

  pub ring_dwindles : Dwindles net demo_load demo_held
  ring_dwindles = record {
    fresh = starts_empty;
    light = loads_few;
    brought = λ m e c machine s codes at fit known.
        three_codes (λ l. demo_held m (codes_after machine (Dep s m e c) l)
        ≤ demo_held m l + demo_load e c)
        (adds m e c machine s at) codes
        (subst (λ vars. IsTrue (fits vars codes)) (machines m machine at).vars fit);
    reacted = λ m machine s o at fit gives.
        three_codes (λ l. (p : Outcome) → Transition machine (reading l) p
        → demo_held m (codes_after machine (Rea m (reading l) p) l)
        + weight demo_load (firing_deliveries net (Rea m (reading l) p))
        ≤ demo_held m l)
        (reacts m machine at) s.codes
        (subst (λ vars. IsTrue (fits vars s.codes)) (machines m machine at).vars fit) o gives;
  }
