-- The codes of signals after a journal of the network are codes of theirs.
use Rattle.std.specs.Prelude.{◌≡◌, ℕ, zero, suc, ◌+◌, ◌<◌, ◌≤◌, Bool, true, false, ◌&&◌, ◌==◌, nat_lt, nat_le, List, [], ◌∷◌, ◌++◌, map, filter, flat_map, length, take, slice_get, slice_index, Option, Some, option_map, unwrap_or}
use Rattle.std.specs.Bool.{then_some}
use Rattle.std.specs.List.{cons_option, list_all}
use Rattle.std.specs.Cmp.Lexicographic.{same_text}
use Rattle.std.proofs.Common.{refl, sym, ap, ◌∙◌, subst, inl, inr, arith}
use Rattle.std.proofs.lemmas.List.{get_or_append_left, get_or-append-add, get_or-map, length-map}
use Rattle.std.proofs.lemmas.Bool.{and_parts, and_from, eqb-true, ltb-true, lt-ltb, leb-true}
use Rattle.std.proofs.lemmas.Option.{slice_get_cases, slice_get_within, get_or_from_slice_get}
use Rattle.polis_base.specs.Lists.{upto}
use Rattle.transition_table.specs.NetworkFacts.{event_values, has_vars, values_of}
use Rattle.transition_table.specs.declared.decl.StateDecl.{StateDecl}
use Rattle.transition_table.specs.declared.machine.Machine.{Machine}
use Rattle.transition_table.specs.declared.network.Network.{Network}
use Rattle.journals.specs.declared.entry.Entry.{Entry}
use Rattle.journals.specs.declared.entry.Entry.TheVariants.{Dep, Rea}
use Rattle.journals.specs.Journals.{IsJournal, is_event_code, emissions, inputs_of, buffered, snap, state, states_of}
use Rattle.journals.proofs.SnapFits.{snap_fits}
use Rattle.journals.proofs.FitsNetwork.{emissions_fit}
use Rattle.polis_base.proofs.Lists.{all_append, all_parts, upto_all}
use Rattle.std.proofs.lemmas.List.Folds.{list_all-map}
use Rattle.transition_table.proofs.Ranges.{below_size, vars_length}
use Rattle.event_accounts.proofs.InputsOf.{inputs_of_machine, input_within, code_of_place}
use Rattle.event_accounts.specs.Accounts.{buffer_at}
use Rattle.wave_text.specs.inner.Changing.{codes_emitted}
use Rattle.wave_text.specs.Signals.{signal_code, emission_signals, has_values, snapshot_signals, last_emitted, loss_signals, out_events, signals, machine_signals, value_signals}
use Rattle.wave_text.specs.inner.Writable.{has_code, is_signal, state_codes}
use Rattle.wave_text.specs.declared.signal.Signal.{Signal}
use Rattle.wave_text.specs.declared.signal.Signal.TheVariants.{Input, State, Loss, Emission, Value}
use Rattle.wave_text.proofs.EntryChanges.{filter_below, out_below}
use Rattle.wave_text.proofs.MachineSignals.{states_of_machine}
use Rattle.journals.proofs.MomentsAfter.{get_or_table}
use Rattle.polis_base.proofs.Bools.{and_second}
use Rattle.polis_base.proofs.ListTests.{all_get, last_below}
use Rattle.polis_base.proofs.Places.{flat_map_push}

pub journal_front : (net : Network) (journal : List Entry) (n : ℕ) → IsJournal net journal
    → IsJournal net (take n journal)
journal_front net journal zero h = tt
journal_front net [] (suc n) h = tt
journal_front net (x ∷ journal) (suc n) h = (h.0, journal_front net journal n h.1)

-- ---- what snapshots have

vars_are : (net : Network) (m : ℕ) (machine : Machine) → slice_get net.machines m ≡ Some machine
    → machine.vars
    ≡ map (λ e. 1 + event_values net.domains net.events e) machine.inputs
    ++ map (λ (state : StateDecl). values_of net.domains (Some state.domain)) machine.states
vars_are net m machine at =
    same_text machine.vars
    (map (λ e. 1 + event_values net.domains net.events e) machine.inputs
    ++ map (λ (state : StateDecl). values_of net.domains (Some state.domain)) machine.states)
    (sym (all_get (has_vars net.domains net.events) net.machines m machine net.sized_vars at))

input_fits : (net : Network) (journal : List Entry) (m i e : ℕ) (machine : Machine)
    → IsJournal net journal → slice_get net.machines m ≡ Some machine
    → slice_get (inputs_of net m) i ≡ Some e
    → buffered journal m e < 1 + event_values net.domains net.events e
input_fits net journal m i e machine h there at =
    let size : ℕ → ℕ = λ e. 1 + event_values net.domains net.events e in
    let rest = map (λ (state : StateDecl). values_of net.domains (Some state.domain))
    machine.states in
    let mine = subst (λ (l : List ℕ). slice_get l i ≡ Some e)
    (inputs_of_machine net m machine there) at in
    let within = slice_get_within machine.inputs i e mine in
    let many = vars_length machine in
    let small = below_size machine.vars (snap net journal m).codes i
    (snap_fits net journal m machine h there) (omega arith) in
    let code = code_of_place net journal (buffer_at m (i, e)) at in
    let count = length-map machine.inputs size in
    let limit : slice_index machine.vars i ≡ size e =
    ap (λ (l : List ℕ). slice_index l i) (vars_are net m machine there)
    ∙ get_or_append_left (map size machine.inputs) rest 0 i (omega arith)
    ∙ get_or-map size machine.inputs i 0 0 within
    ∙ ap size (get_or_from_slice_get machine.inputs i e 0 mine) in
    omega arith

state_fits : (net : Network) (journal : List Entry) (m x : ℕ) (machine : Machine)
    → IsJournal net journal → slice_get net.machines m ≡ Some machine
    → x < length (states_of net m) → state net journal m x < state_codes net m x
state_fits net journal m x machine h there below =
    elim (slice_get_cases (states_of net m) x).1 [
      | inl (variable, inside, at, is) ↦
          let size : ℕ → ℕ = λ e. 1 + event_values net.domains net.events e in
          let width : StateDecl → ℕ = λ state. values_of net.domains (Some state.domain) in
          let inputs = inputs_of net m in
          let front = map (buffered journal m) inputs in
          let states = length (states_of net m) in
          let mine = subst (λ (l : List StateDecl). slice_get l x ≡ Some variable)
          (states_of_machine net m machine there) at in
          let within = slice_get_within machine.states x variable mine in
          let many = vars_length machine in
          let i = length inputs + x in
          let same = ap length (inputs_of_machine net m machine there) in
          let small = below_size machine.vars (snap net journal m).codes i
          (snap_fits net journal m machine h there) (omega arith) in
          let code : slice_index (snap net journal m).codes i ≡ state net journal m x =
          ap (λ (n : ℕ). slice_index (snap net journal m).codes (n + x))
          (sym (length-map inputs (buffered journal m)))
          ∙ get_or-append-add front (map (state net journal m) (upto states)) x 0
          ∙ get_or_table (state net journal m) states x 0 below in
          let limit : slice_index machine.vars i ≡ width variable =
          ap (λ (l : List ℕ). slice_index l i) (vars_are net m machine there)
          ∙ ap (λ (n : ℕ). slice_index (map size machine.inputs ++ map width machine.states)
          (n + x))
          (same ∙ sym (length-map machine.inputs size))
          ∙ get_or-append-add (map size machine.inputs) (map width machine.states) x 0
          ∙ get_or-map width machine.states x variable 0 within
          ∙ ap width (get_or_from_slice_get machine.states x variable variable mine) in
          let count : state_codes net m x ≡ width variable =
          ap (λ (o : Option StateDecl). unwrap_or (option_map width o) 0) at in
          omega arith
      | inr (past, none) ↦ absurd (omega arith)
    ]

-- ---- what is emitted

-- the code that comes with an event is one of the event's
code_small : (net : Network) (e c : ℕ) → is_event_code net e c ≡ true
    → nat_lt c (1 + event_values net.domains net.events e) ≡ true
code_small net e c h =
    let most = leb-true c (event_values net.domains net.events e)
    (and_second (nat_lt e (length net.events) && nat_le 1 c)
    (nat_le c (event_values net.domains net.events e)) h) in
    lt-ltb c (1 + event_values net.domains net.events e) (omega arith)

codes_small : (net : Network) (e : ℕ) (list : List (ℕ × ℕ))
    → list_all (λ p. is_event_code net p.0 p.1) list ≡ true
    → list_all (λ c. nat_lt c (1 + event_values net.domains net.events e)) (codes_emitted e list)
    ≡ true
codes_small net e [] h = refl
codes_small net e ((x, c) ∷ list) h =
    let parts = and_parts (is_event_code net x c)
    (list_all (λ p. is_event_code net p.0 p.1) list) h in
    cases (x == e) refl (code_small net x c parts.0) (codes_small net e list parts.1)
  where
    small : ℕ → ℕ → Bool
    small k c = nat_lt c (1 + event_values net.domains net.events k)

    cases : (b : Bool) → (x == e) ≡ b → small x c ≡ true
        → list_all (small e) (codes_emitted e list) ≡ true
        → list_all (small e) (cons_option (then_some b c) (codes_emitted e list)) ≡ true
    cases true is here rest =
        and_from (small e c) (list_all (small e) (codes_emitted e list))
        (subst (λ (k : ℕ). small k c ≡ true) (eqb-true x e is) here) rest
    cases false is here rest = rest

all_event_codes : (net : Network) (journal : List Entry) → IsJournal net journal
    → list_all (λ p. is_event_code net p.0 p.1) (flat_map (emissions net) journal) ≡ true
all_event_codes net [] h = refl
all_event_codes net (Dep s m e c ∷ journal) h = all_event_codes net journal h.1
all_event_codes net (Rea m s o ∷ journal) h =
    all_append (λ p. is_event_code net p.0 p.1) (emissions net (Rea m s o))
    (flat_map (emissions net) journal) (emissions_fit net m s o h.0).1
    (all_event_codes net journal h.1)

value_fits : (net : Network) (journal : List Entry) (e : ℕ) → IsJournal net journal
    → last_emitted net journal e < 1 + event_values net.domains net.events e
value_fits net journal e h =
    last_below (1 + event_values net.domains net.events e) 0
    (codes_emitted e (flat_map (emissions net) journal)) (omega arith)
    (codes_small net e (flat_map (emissions net) journal) (all_event_codes net journal h))

-- ---- each signal

-- what holds of each kind of signal holds of all
pub record OfAll (net : Network) (t : Signal → Bool) : Type 0 where
  pub inputs :
      (m i e : ℕ) (machine : Machine) → slice_get net.machines m ≡ Some machine
      → slice_get (inputs_of net m) i ≡ Some e → t (Input m e) ≡ true
  pub states :
      (m x : ℕ) (machine : Machine) → slice_get net.machines m ≡ Some machine
      → x < length (states_of net m) → t (State m x) ≡ true
  pub losses :
      (m i e : ℕ) (machine : Machine) → slice_get net.machines m ≡ Some machine
      → slice_get (inputs_of net m) i ≡ Some e → t (Loss m e) ≡ true
  pub emissions : (e : ℕ) → e < length net.events → t (Emission e) ≡ true
  pub values : (e : ℕ) → e < length net.events → t (Value e) ≡ true

all_by_place : (t : ℕ → Bool) (xs : List ℕ)
    → ((i e : ℕ) → slice_get xs i ≡ Some e → t e ≡ true) → list_all t xs ≡ true
all_by_place t [] h = refl
all_by_place t (x ∷ xs) h =
    and_from (t x) (list_all t xs) (h 0 x refl) (all_by_place t xs (λ i e at. h (suc i) e at))

all_numbers : (t : ℕ → Bool) (n : ℕ) (xs : List ℕ) → list_all (λ e. nat_lt e n) xs ≡ true
    → ((e : ℕ) → e < n → t e ≡ true) → list_all t xs ≡ true
all_numbers t n [] h each = refl
all_numbers t n (x ∷ xs) h each =
    let parts = and_parts (nat_lt x n) (list_all (λ e. nat_lt e n) xs) h in
    and_from (t x) (list_all t xs) (each x (ltb-true x n parts.0)) (all_numbers t n xs parts.1 each)

of_machine : (net : Network) (t : Signal → Bool) (m : ℕ) (machine : Machine) → OfAll net t
    → slice_get net.machines m ≡ Some machine → list_all t (machine_signals net m) ≡ true
of_machine net t m machine all at =
    all_append t (snapshot_signals net m) (loss_signals net m)
    (all_append t (map (Input m) (inputs_of net m))
    (map (State m) (upto (length (states_of net m))))
    (list_all-map t (Input m) (inputs_of net m)
    ∙ all_by_place (λ e. t (Input m e)) (inputs_of net m)
    (λ i e is. all.inputs m i e machine at is))
    (list_all-map t (State m) (upto (length (states_of net m)))
    ∙ upto_all (λ x. t (State m x)) (length (states_of net m))
    (λ x below. all.states m x machine at below)))
    (list_all-map t (Loss m) (inputs_of net m)
    ∙ all_by_place (λ e. t (Loss m e)) (inputs_of net m) (λ i e is. all.losses m i e machine at is))

of_machines : (net : Network) (t : Signal → Bool) (n : ℕ) → n ≤ length net.machines → OfAll net t
    → list_all t (flat_map (machine_signals net) (upto n)) ≡ true
of_machines net t zero few all = refl
of_machines net t (suc n) few all =
    elim (slice_get_cases net.machines n).1 [
      | inl (machine, inside, at, is) ↦
          subst (λ (l : List Signal). list_all t l ≡ true)
          (sym (flat_map_push (machine_signals net) (upto n) n))
          (all_append t (flat_map (machine_signals net) (upto n)) (machine_signals net n)
          (of_machines net t n (omega arith) all) (of_machine net t n machine all at))
      | inr (past, none) ↦ absurd (omega arith)
    ]

pub all_signals_hold : (net : Network) (t : Signal → Bool) → OfAll net t
    → list_all t (signals net) ≡ true
all_signals_hold net t all =
    let n = length net.events in
    let machines = flat_map (machine_signals net) (upto (length net.machines)) in
    all_append t (machines ++ emission_signals net) (value_signals net)
    (all_append t machines (emission_signals net)
    (of_machines net t (length net.machines) (omega arith) all)
    (list_all-map t Emission (out_events net)
    ∙ all_numbers (λ e. t (Emission e)) n (out_events net) (out_below net) all.emissions))
    (list_all-map t Value (filter (has_values net) (out_events net))
    ∙ all_numbers (λ e. t (Value e)) n (filter (has_values net) (out_events net))
    (filter_below (has_values net) n (out_events net) (out_below net)) all.values)

pub signals_good : (net : Network) → OfAll net (is_signal net)
signals_good net = record {
  inputs = λ m i e machine there at.
      lt-ltb e (length net.events) (input_within net m i e machine there at);
  states = λ m x machine there below.
      and_from (nat_lt m (length net.machines)) (nat_lt x (length (states_of net m)))
      (lt-ltb m (length net.machines) (slice_get_within net.machines m machine there))
      (lt-ltb x (length (states_of net m)) below);
  losses = λ m i e machine there at.
      lt-ltb e (length net.events) (input_within net m i e machine there at);
  emissions = λ e below. lt-ltb e (length net.events) below;
  values = λ e below. lt-ltb e (length net.events) below;
}

pub codes_good : (net : Network) (journal : List Entry) → IsJournal net journal
    → OfAll net (λ s. has_code net s (signal_code net journal s))
codes_good net journal h = record {
  inputs = λ m i e machine there at. lt-ltb _ _ (input_fits net journal m i e machine h there at);
  states = λ m x machine there below. lt-ltb _ _ (state_fits net journal m x machine h there below);
  losses = λ m i e machine there at. refl;
  emissions = λ e below. refl;
  values = λ e below. lt-ltb _ _ (value_fits net journal e h);
}

pub signals_fit : (net : Network) (journal : List Entry) → IsJournal net journal
    → (k : ℕ) (s : Signal) → slice_get (signals net) k ≡ Some s
    → (is_signal net s ≡ true) × (has_code net s (signal_code net journal s) ≡ true)
signals_fit net journal h k s at = (
  all_get (is_signal net) (signals net) k s
      (all_signals_hold net (is_signal net) (signals_good net)) at,
  all_get (λ s. has_code net s (signal_code net journal s)) (signals net) k s
      (all_signals_hold net (λ s. has_code net s (signal_code net journal s))
      (codes_good net journal h)) at,
)

pub snapshot_signals_good : (net : Network) (m : ℕ) (machine : Machine)
    → slice_get net.machines m ≡ Some machine
    → list_all (is_signal net) (snapshot_signals net m) ≡ true
snapshot_signals_good net m machine at =
    (all_parts (is_signal net) (snapshot_signals net m) (loss_signals net m)
    (of_machine net (is_signal net) m machine (signals_good net) at)).0

pub losses_good : (net : Network) (m : ℕ) (machine : Machine)
    → slice_get net.machines m ≡ Some machine
    → list_all (is_signal net) (loss_signals net m) ≡ true
losses_good net m machine at =
    (all_parts (is_signal net) (snapshot_signals net m) (loss_signals net m)
    (of_machine net (is_signal net) m machine (signals_good net) at)).1

pub emissions_good : (net : Network) → list_all (is_signal net) (emission_signals net) ≡ true
emissions_good net =
    let machines = flat_map (machine_signals net) (upto (length net.machines)) in
    (all_parts (is_signal net) machines (emission_signals net)
    (all_parts (is_signal net) (machines ++ emission_signals net) (value_signals net)
    (all_signals_hold net (is_signal net) (signals_good net))).0).1

pub values_good : (net : Network) → list_all (is_signal net) (value_signals net) ≡ true
values_good net =
    let machines = flat_map (machine_signals net) (upto (length net.machines)) in
    (all_parts (is_signal net) (machines ++ emission_signals net) (value_signals net)
    (all_signals_hold net (is_signal net) (signals_good net))).1
