-- The snapshot of a moment and the outcome of a transition fit their machine.
use Rattle.std.specs.Prelude.{◌≡◌, ℕ, zero, suc, ◌+◌, ◌<◌, Bool, true, false, cond, ◌&&◌, ◌==◌, nat_lt, nat_le, List, [], ◌∷◌, ◌++◌, map, filter_map, length, take, drop, slice_get, slice_index, Option, Some, None, option_map, unwrap_or, IsSomeAnd}
use Rattle.std.specs.Bool.{then_some}
use Rattle.std.specs.List.{list_all, after_last, cons_option}
use Rattle.std.specs.Cmp.Lexicographic.{pointwise}
use Rattle.std.proofs.Common.{refl, sym, ap, ◌∙◌, subst, inl, inr, arith}
use Rattle.std.proofs.lemmas.List.{length-map, get_or_append_left, get_or-map, get_or-take, get_or-drop, length-drop, drop_at}
use Rattle.std.proofs.lemmas.Bool.{false≢true, eqb-true, ltb-true, leb-true, lt-ltb, and_parts, and_from}
use Rattle.std.proofs.lemmas.Option.{slice_get_cases}
use Rattle.polis_base.specs.Lists.{upto}
use Rattle.domains.specs.Tables.{fits, are_sizes}
use Rattle.transition_table.specs.NetworkFacts.{event_values, values_of, has_vars}
use Rattle.transition_table.specs.Laws.{TransitionFits}
use Rattle.transition_table.specs.Transitions.{OfMachine, IsSnapshot, Transition, IsOutcome}
use Rattle.transition_table.specs.declared.decl.StateDecl.{StateDecl}
use Rattle.transition_table.specs.declared.machine.Machine.{Machine}
use Rattle.transition_table.specs.declared.network.Network.{Network}
use Rattle.transition_table.specs.declared.snapshot.Snapshot.{Snapshot}
use Rattle.transition_table.specs.declared.snapshot.Outcome.{Outcome}
use Rattle.journals.specs.declared.entry.Entry.{Entry}
use Rattle.journals.specs.declared.entry.Entry.TheVariants.{Dep, Rea}
use Rattle.journals.specs.Journals.{FitsNetwork, IsJournal, is_party, is_event_code, inputs_of, states_of, is_firing_of, code_brought, buffered, value_set, value_given, initial, state, snap}
use Rattle.journals.proofs.MomentsAfter.{get_or_upto}
use Rattle.transition_table.proofs.Ranges.{below_size}
use Rattle.domains.proofs.FittingCodes.{fits_both, fits_from}
use Rattle.polis_base.proofs.ListTests.{all_get, last_below}
use Rattle.polis_base.proofs.Places.{same_numbers}
use Rattle.polis_base.proofs.UptoPlaces.{length_upto}

-- ---- lists

get_of_upto : (f : ℕ → ℕ) (n k : ℕ) → k < n → slice_index (map f (upto n)) k ≡ f k
get_of_upto f n k h = let size = length_upto n in get_or-map f (upto n) k 0 0 (omega arith)
    ∙ ap f (get_or_upto n k 0 h)

-- ---- entries of the network

journal_after : (net : Network) (n : ℕ) (journal : List Entry) → IsJournal net journal
    → IsJournal net (drop n journal)
journal_after net zero journal h = h
journal_after net (suc n) [] h = tt
journal_after net (suc n) (entry ∷ journal) h = journal_after net n journal h.1

-- ---- places

brought_fits : (net : Network) (m e : ℕ) (journal : List Entry) → IsJournal net journal
    → list_all (λ c. nat_lt c (1 + event_values net.domains net.events e))
    (filter_map (code_brought m e) journal) ≡ true
brought_fits net m e [] h = refl
brought_fits net m e (Rea k x o ∷ journal) h = brought_fits net m e journal h.1
brought_fits net m e (Dep from to event code ∷ journal) h =
    cases (to == m && event == e) refl (brought_fits net m e journal h.1)
  where
    cases : (b : Bool) → (to == m && event == e) ≡ b
        → list_all (λ c. nat_lt c (1 + event_values net.domains net.events e))
        (filter_map (code_brought m e) journal) ≡ true
        → list_all (λ c. nat_lt c (1 + event_values net.domains net.events e))
        (cons_option (then_some b code) (filter_map (code_brought m e) journal)) ≡ true
    cases true is rest =
        let parts = and_parts (to == m) (event == e) is in
        let fitting =
        (and_parts (is_party net from && nat_lt to (length net.machines))
        (is_event_code net event code) h.0).1 in
        let high =
        leb-true code (event_values net.domains net.events event)
        (and_parts (nat_lt event (length net.events) && nat_le 1 code)
        (nat_le code (event_values net.domains net.events event)) fitting).1 in
        let here = ap (event_values net.domains net.events) (eqb-true event e parts.1) in
        and_from (nat_lt code (1 + event_values net.domains net.events e))
        (list_all (λ c. nat_lt c (1 + event_values net.domains net.events e))
        (filter_map (code_brought m e) journal))
        (lt-ltb code (1 + event_values net.domains net.events e) (omega arith)) rest
    cases false is rest = rest

place_fits : (net : Network) (journal : List Entry) (m e : ℕ) → IsJournal net journal
    → buffered journal m e < 1 + event_values net.domains net.events e
place_fits net journal m e h =
    last_below (1 + event_values net.domains net.events e) 0
    (filter_map (code_brought m e) (after_last (is_firing_of m) journal)) (omega arith)
    (brought_fits net m e (after_last (is_firing_of m) journal) (journal_after net _ journal h))

places_fit : (net : Network) (journal : List Entry) (m : ℕ) (events : List ℕ)
    → IsJournal net journal
    → fits (map (λ e. 1 + event_values net.domains net.events e) events)
    (map (buffered journal m) events) ≡ true
places_fit net journal m [] h = refl
places_fit net journal m (e ∷ events) h =
    and_from (nat_lt (buffered journal m e) (1 + event_values net.domains net.events e))
    (fits (map (λ e. 1 + event_values net.domains net.events e) events)
    (map (buffered journal m) events))
    (lt-ltb (buffered journal m e) (1 + event_values net.domains net.events e)
    (place_fits net journal m e h))
    (places_fit net journal m events h)

-- ---- what a machine keeps

pointwise_at : {X : Type 0} (test : X → ℕ → Bool) (xs : List X) (ys : List ℕ) (k : ℕ) (x : X)
    → pointwise test xs ys ≡ true → slice_get xs k ≡ Some x → test x (slice_index ys k) ≡ true
pointwise_at test [] ys k x h is = cc
pointwise_at test (y ∷ xs) [] k x h is = absurd (false≢true h)
pointwise_at test (y ∷ xs) (z ∷ ys) zero x h is = let same : y ≡ x =
    cc in subst (λ w. test w z ≡ true) same (and_parts (test y z) (pointwise test xs ys) h).0
pointwise_at test (y ∷ xs) (z ∷ ys) (suc k) x h is =
    pointwise_at test xs ys k x (and_parts (test y z) (pointwise test xs ys) h).1 is

-- the sizes of the state variables
abbrev state_sizes : Machine → List ℕ
state_sizes machine = drop (length machine.inputs) machine.vars

vars_parts : (machine : Machine)
    → (length machine.vars ≡ length machine.inputs + length machine.states)
    × (pointwise (λ (variable : StateDecl) size. nat_lt variable.init size) machine.states
    (state_sizes machine) ≡ true)
vars_parts machine = (
  eqb-true (length machine.vars) (length machine.inputs + length machine.states)
      (and_parts sizes long
      (and_parts (sizes && long) inputs
      (and_parts (sizes && long && inputs) initials machine.sized_vars).0).0).1,
  (and_parts (sizes && long && inputs) initials machine.sized_vars).1,
)
  where
    sizes : Bool
    sizes = are_sizes machine.vars

    long : Bool
    long = length machine.vars == length machine.inputs + length machine.states

    inputs : Bool
    inputs = list_all (nat_le 2) (take (length machine.inputs) machine.vars)

    initials : Bool
    initials =
        pointwise (λ (variable : StateDecl) size. nat_lt variable.init size) machine.states
        (state_sizes machine)

results_parts : (machine : Machine)
    → (length machine.results ≡ 1 + length machine.states + length machine.outputs)
    × ((2 ∷ map (λ size. 1 + size) (state_sizes machine))
    ≡ take (1 + length machine.states) machine.results)
    × (list_all (nat_le 2) (drop (1 + length machine.states) machine.results) ≡ true)
results_parts machine = (
  eqb-true (length machine.results) (1 + length machine.states + length machine.outputs)
      (and_parts long states (and_parts (long && states) outputs machine.sized_results).0).0,
  same_numbers (2 ∷ map (λ size. 1 + size) (state_sizes machine))
      (take (1 + length machine.states) machine.results)
      (and_parts long states (and_parts (long && states) outputs machine.sized_results).0).1,
  (and_parts (long && states) outputs machine.sized_results).1,
)
  where
    long : Bool
    long = length machine.results == 1 + length machine.states + length machine.outputs

    states : Bool
    states =
        pointwise ◌==◌ (2 ∷ map (λ size. 1 + size) (state_sizes machine))
        (take (1 + length machine.states) machine.results)

    outputs : Bool
    outputs = list_all (nat_le 2) (drop (1 + length machine.states) machine.results)

length_state_sizes : (machine : Machine) → length (state_sizes machine) ≡ length machine.states
length_state_sizes machine = let parts = vars_parts machine in let size =
    length-drop (length machine.inputs) machine.vars in omega arith

-- the result of a state variable has one code more than the variable
state_result : (machine : Machine) (x : ℕ) → x < length machine.states
    → slice_index machine.results (1 + x) ≡ 1 + slice_index (state_sizes machine) x
state_result machine x h =
    let parts = results_parts machine in
    let size = length_state_sizes machine in
    let next : 1 + x ≡ suc x = omega arith in
    sym (get_or-take (1 + length machine.states) machine.results (1 + x) 0 (omega arith))
    ∙ ap (λ l. slice_index l (1 + x)) (sym parts.1)
    ∙ ap (λ k. slice_index (2 ∷ map (λ size. 1 + size) (state_sizes machine)) k) next
    ∙ get_or-map (λ size. 1 + size) (state_sizes machine) x 0 0 (omega arith)

-- ---- states

initial_fits : (net : Network) (m x : ℕ) (machine : Machine)
    → slice_get net.machines m ≡ Some machine → x < length machine.states
    → initial net m x < slice_index (state_sizes machine) x
initial_fits net m x machine is h =
    let states : states_of net m ≡ machine.states =
    ap (λ (o : Option Machine). unwrap_or (option_map (λ machine. machine.states) o) []) is in
    elim (slice_get_cases machine.states x).1 [
      | inl (variable, within, at, same) ↦
          let init : initial net m x ≡ variable.init =
          ap (λ (l : List StateDecl). unwrap_or
          (option_map (λ variable. variable.init) (slice_get l x)) 0) states
          ∙ ap
          (λ (o : Option StateDecl). unwrap_or (option_map (λ variable. variable.init) o) 0) at in
          let below =
          ltb-true variable.init (slice_index (state_sizes machine) x)
          (pointwise_at (λ (variable : StateDecl) size. nat_lt variable.init size) machine.states
          (state_sizes machine) x variable (vars_parts machine).1 at) in
          omega arith
      | inr (past, none) ↦ absurd (omega arith)
    ]

-- the next codes of a fitting outcome
next_fits : (machine : Machine) (o : Outcome) (x : ℕ) → IsOutcome machine o
    → x < length machine.states → slice_index o.next x < 1 + slice_index (state_sizes machine) x
next_fits machine o x fit h =
    let parts = results_parts machine in
    let width = fit.widths.next in
    let size = length-drop 1 machine.results in
    let here = get_or_append_left o.next o.outs 0 x (omega arith) in
    let below =
    below_size (drop 1 machine.results) (o.next ++ o.outs) x fit.codes (omega arith) in
    let there = get_or-drop 1 machine.results x 0 in
    let what = state_result machine x h in
    omega arith

outcome_of_machine : (net : Network) (m : ℕ) (machine : Machine) (s : Snapshot) (o : Outcome)
    → slice_get net.machines m ≡ Some machine → FitsNetwork net (Rea m s o) → IsOutcome machine o
outcome_of_machine net m machine s o is h =
    let fits : IsSnapshot machine s × IsOutcome machine o =
    subst
    (λ (found : Option Machine). IsSomeAnd found
    (λ machine. IsSnapshot machine s × IsOutcome machine o)) is h in
    fits.1

values_fit : (net : Network) (m x : ℕ) (machine : Machine) (journal : List Entry)
    → slice_get net.machines m ≡ Some machine → x < length machine.states → IsJournal net journal
    → list_all (λ v. nat_lt v (slice_index (state_sizes machine) x))
    (filter_map (value_given m x) journal) ≡ true
values_fit net m x machine [] is below h = refl
values_fit net m x machine (Dep from to event code ∷ journal) is below h =
    values_fit net m x machine journal is below h.1
values_fit net m x machine (Rea k s o ∷ journal) is below h =
    cases (k == m && o.fires) refl (values_fit net m x machine journal is below h.1)
  where
    size : ℕ
    size = slice_index (state_sizes machine) x

    set : (c : ℕ) → c < 1 + size
        → list_all (λ v. nat_lt v size) (filter_map (value_given m x) journal) ≡ true
        → list_all (λ v. nat_lt v size)
        (cons_option (value_set c) (filter_map (value_given m x) journal)) ≡ true
    set zero small rest = rest
    set (suc v) small rest =
        and_from (nat_lt v size)
        (list_all (λ v. nat_lt v size) (filter_map (value_given m x) journal))
        (lt-ltb v size (omega arith)) rest

    cases : (b : Bool) → (k == m && o.fires) ≡ b
        → list_all (λ v. nat_lt v size) (filter_map (value_given m x) journal) ≡ true
        → list_all (λ v. nat_lt v size)
        (cons_option (cond b (value_set (slice_index o.next x)) None)
        (filter_map (value_given m x) journal)) ≡ true
    cases true both rest =
        let own = eqb-true k m (and_parts (k == m) o.fires both).0 in
        set (slice_index o.next x)
        (next_fits machine o x
        (outcome_of_machine net m machine s o is (subst (λ j. FitsNetwork net (Rea j s o)) own h.0))
        below) rest
    cases false both rest = rest

state_fits : (net : Network) (m x : ℕ) (machine : Machine) (journal : List Entry)
    → slice_get net.machines m ≡ Some machine → x < length machine.states → IsJournal net journal
    → state net journal m x < slice_index (state_sizes machine) x
state_fits net m x machine journal is below h =
    last_below (slice_index (state_sizes machine) x) (initial net m x)
    (filter_map (value_given m x) journal) (initial_fits net m x machine is below)
    (values_fit net m x machine journal is below h)

-- ---- the snapshot

vars_of_inputs : (net : Network) (m : ℕ) (machine : Machine)
    → slice_get net.machines m ≡ Some machine
    → machine.vars
    ≡ map (λ e. 1 + event_values net.domains net.events e) machine.inputs ++ state_sizes machine
vars_of_inputs net m machine is =
    let inputs = map (λ e. 1 + event_values net.domains net.events e) machine.inputs in
    let states = map (λ state. values_of net.domains (Some state.domain)) machine.states in
    let all : machine.vars ≡ inputs ++ states =
    same_numbers machine.vars (inputs ++ states)
    (all_get (has_vars net.domains net.events) net.machines m machine net.sized_vars is) in
    let after : state_sizes machine ≡ states = ap (drop (length machine.inputs)) all
    ∙ drop_at inputs states (length machine.inputs)
    (length-map machine.inputs (λ e. 1 + event_values net.domains net.events e)) in
    all ∙ ap (λ l. inputs ++ l) (sym after)

-- after a journal of the network the snapshot of a machine is one of its snapshots
pub snap_fits : (net : Network) (journal : List Entry) (m : ℕ) (machine : Machine)
    → IsJournal net journal → slice_get net.machines m ≡ Some machine
    → IsSnapshot machine (snap net journal m)
snap_fits net journal m machine h is =
    let inputs : inputs_of net m ≡ machine.inputs =
    ap (λ (o : Option Machine). unwrap_or (option_map (λ machine. machine.inputs) o) []) is in
    let states : states_of net m ≡ machine.states =
    ap (λ (o : Option Machine). unwrap_or (option_map (λ machine. machine.states) o) []) is in
    let count = length_state_sizes machine in
    let whole : fits
    (map (λ e. 1 + event_values net.domains net.events e) machine.inputs ++ state_sizes machine)
    (map (buffered journal m) machine.inputs
    ++ map (state net journal m) (upto (length machine.states))) ≡ true =
    fits_both (map (λ e. 1 + event_values net.domains net.events e) machine.inputs)
    (state_sizes machine) (map (buffered journal m) machine.inputs)
    (map (state net journal m) (upto (length machine.states)))
    (places_fit net journal m machine.inputs h)
    (fits_from (state_sizes machine) (map (state net journal m) (upto (length machine.states)))
    (let size = length-map (upto (length machine.states)) (state net journal m) in let long =
    length_upto (length machine.states) in omega arith)
    (λ x below.
    let inside : x < length machine.states = omega arith in
    let at = get_of_upto (state net journal m) (length machine.states) x inside in
    let small = state_fits net m x machine journal is inside h in
    omega arith)) in
    subst
    (λ vars.
    fits vars
    (map (buffered journal m) (inputs_of net m)
    ++ map (state net journal m) (upto (length (states_of net m)))) ≡ true)
    (sym (vars_of_inputs net m machine is))
    (subst
    (λ (l : List StateDecl). fits
    (map (λ e. 1 + event_values net.domains net.events e) machine.inputs ++ state_sizes machine)
    (map (buffered journal m) (inputs_of net m)
    ++ map (state net journal m) (upto (length l))) ≡ true)
    (sym states)
    (subst
    (λ (l : List ℕ). fits
    (map (λ e. 1 + event_values net.domains net.events e) machine.inputs ++ state_sizes machine)
    (map (buffered journal m) l ++ map (state net journal m) (upto (length machine.states))) ≡ true)
    (sym inputs) whole))

pub snap_fits_below : (net : Network) (journal : List Entry) (m : ℕ) → IsJournal net journal
    → m < length net.machines → OfMachine net m (λ machine. IsSnapshot machine (snap net journal m))
snap_fits_below net journal m h below =
    elim
    (slice_get net.machines m) as (λ (found : Option Machine). slice_get net.machines m ≡ found
    → IsSomeAnd found (λ machine. IsSnapshot machine (snap net journal m))) [
      | None ↦ λ is. absurd (elim (slice_get_cases net.machines m).1 [
        | inl (machine, within, at, same) ↦ cc
        | inr (past, none) ↦ omega arith
      ])
      | Some machine ↦ λ is. snap_fits net journal m machine h is
    ] refl

-- ---- reactions

-- after a journal of the network a reaction to the snapshot of the moment by a transition fits the
-- network
pub reaction_fits : TransitionFits → (net : Network) (journal : List Entry) (m : ℕ) (o : Outcome)
    → IsJournal net journal → OfMachine net m (λ machine. Transition machine (snap net journal m) o)
    → FitsNetwork net (Rea m (snap net journal m) o)
reaction_fits fits net journal m o h may =
    elim
    (slice_get net.machines m) as (λ (found : Option Machine). slice_get net.machines m ≡ found
    → IsSomeAnd found (λ machine. Transition machine (snap net journal m) o)
    → IsSomeAnd found (λ machine. IsSnapshot machine (snap net journal m) × IsOutcome machine o)) [
      | None ↦ λ is none. absurd none
      | Some machine ↦ λ is transition. (
        snap_fits net journal m machine h is,
        fits machine (snap net journal m) o
            (snap_fits net journal m machine h is) transition,
      )
    ] refl may
