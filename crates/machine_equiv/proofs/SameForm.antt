-- Networks of one shape have machines of one form, and the same lists by number.
use Rattle.std.proofs.Common.{◌≡◌, ℕ, ◌+◌, ◌==◌, Bool, false, ◌&&◌, List, [], ◌∷◌, ◌++◌, map, length, take, drop, slice_get, Option, Some, None, option_map, unwrap_or, nat_lt, nat_le, refl, sym, ap, ◌∙◌}
use Rattle.std.specs.List.{list_all}
use Rattle.std.specs.Cmp.Lexicographic.{pointwise}
use Rattle.std.proofs.lemmas.Bool.{and_parts}
use Rattle.std.proofs.lemmas.List.{take-append-drop}
use Rattle.domains.specs.Domains.{size_of}
use Rattle.domains.specs.declared.domain.Domain.{Domain}
use Rattle.transition_table.specs.NetworkFacts.{values_of, event_values, has_vars, has_outputs}
use Rattle.transition_table.specs.declared.decl.EventDecl.{EventDecl}
use Rattle.transition_table.specs.declared.decl.StateDecl.{StateDecl}
use Rattle.transition_table.specs.declared.machine.Machine.{Machine}
use Rattle.transition_table.specs.declared.network.Network.{Network}
use Rattle.journals.specs.Journals.{inputs_of, outputs_of, states_of, initial, is_event_code}
use Rattle.journals.specs.Outputs.{goes_out}
use Rattle.transition_table.specs.EventWords.{event_words, words_in}
use Rattle.transition_table.proofs.EventWords.{count_of, counted, long_words_in}
use Rattle.machine_equiv.specs.Shapes.{state_words, of_states, SameShape, SameForm}
use Rattle.polis_base.proofs.AgreeBelow.{at_place, at_both, same_long}
use Rattle.polis_base.proofs.ListTests.{all_get}
use Rattle.polis_base.proofs.Places.{same_numbers}

-- ---- numbers of values

module _ (a b : Network) (shape : SameShape a b) where
  pub same_values : (e : ℕ) → event_values a.domains a.events e ≡ event_values b.domains b.events e
  same_values e =
      sym (counts a (slice_get a.events e))
      ∙ ap (λ o. unwrap_or (option_map count_of o) 0)
      (at_place (event_words a) (event_words b) a.events b.events e shape.events.words)
      ∙ counts b (slice_get b.events e)
    where
      counts : (net : Network) (o : Option EventDecl)
          → unwrap_or (option_map count_of (option_map (event_words net) o)) 0
          ≡ unwrap_or (option_map (λ event. values_of net.domains event.domain) o) 0
      counts net None = refl
      counts net (Some event) = counted net event.domain

  pub same_goes_out : (e : ℕ) → goes_out a e ≡ goes_out b e
  same_goes_out e =
      ap (λ o. unwrap_or o false)
      (at_place (λ (event : EventDecl). event.to_env) (λ event. event.to_env) a.events b.events e
      shape.events.to_env)

  pub same_event_code : (e code : ℕ) → is_event_code a e code ≡ is_event_code b e code
  same_event_code e code =
      ap (λ n. nat_lt e n && nat_le 1 code && nat_le code (event_values a.domains a.events e))
      (same_long (λ (event : EventDecl). event.name) (λ event. event.name) a.events b.events
      shape.events.names)
      ∙ ap (λ n. nat_lt e (length b.events) && nat_le 1 code && nat_le code n) (same_values e)

  -- ---- lists by number

  pub machines_long : length a.machines ≡ length b.machines
  machines_long =
      same_long (λ (machine : Machine). machine.name) (λ machine. machine.name) a.machines
      b.machines shape.machines.names

  pub same_inputs : (m : ℕ) → inputs_of a m ≡ inputs_of b m
  same_inputs m =
      ap (λ o. unwrap_or o [])
      (at_place (λ (machine : Machine). machine.inputs) (λ machine. machine.inputs) a.machines
      b.machines m shape.machines.inputs)

  pub same_outputs : (m : ℕ) → outputs_of a m ≡ outputs_of b m
  same_outputs m =
      ap (λ o. unwrap_or o [])
      (at_place (λ (machine : Machine). machine.outputs) (λ machine. machine.outputs) a.machines
      b.machines m shape.machines.outputs)

  -- what a fact says of each state variable of the machine of this number
  at_states : {X : Type 0} (f : StateDecl → X) (o : Option Machine)
      → map f (unwrap_or (option_map (λ machine. machine.states) o) [])
      ≡ unwrap_or (option_map (of_states f) o) []
  at_states f None = refl
  at_states f (Some machine) = refl

  of_all_states : {X : Type 0} (f g : StateDecl → X) (m : ℕ)
      → map (of_states f) a.machines ≡ map (of_states g) b.machines
      → map f (states_of a m) ≡ map g (states_of b m)
  of_all_states f g m same =
      at_states f (slice_get a.machines m)
      ∙ ap (λ o. unwrap_or o []) (at_place (of_states f) (of_states g) a.machines b.machines m same)
      ∙ sym (at_states g (slice_get b.machines m))

  pub same_states_long : (m : ℕ) → length (states_of a m) ≡ length (states_of b m)
  same_states_long m =
      same_long (λ (state : StateDecl). state.name) (λ state. state.name) (states_of a m)
      (states_of b m)
      (of_all_states (λ state. state.name) (λ state. state.name) m shape.machines.state_names)

  pub same_initial : (m x : ℕ) → initial a m x ≡ initial b m x
  same_initial m x =
      ap (λ o. unwrap_or o 0)
      (at_place (λ (state : StateDecl). state.init) (λ state. state.init) (states_of a m)
      (states_of b m) x
      (of_all_states (λ state. state.init) (λ state. state.init) m shape.machines.initial_values))

  -- ---- machines of one number

  module _ (k : ℕ) (x y : Machine) (x_is : slice_get a.machines k ≡ Some x)
      (y_is : slice_get b.machines k ≡ Some y) where
    inputs_same : x.inputs ≡ y.inputs
    inputs_same =
        at_both (λ (machine : Machine). machine.inputs) (λ machine. machine.inputs) a.machines
        b.machines k x y shape.machines.inputs x_is y_is

    outputs_same : x.outputs ≡ y.outputs
    outputs_same =
        at_both (λ (machine : Machine). machine.outputs) (λ machine. machine.outputs) a.machines
        b.machines k x y shape.machines.outputs x_is y_is

    of_both_states : {X : Type 0} (f g : StateDecl → X)
        → map (of_states f) a.machines ≡ map (of_states g) b.machines
        → map f x.states ≡ map g y.states
    of_both_states f g same =
        at_both (of_states f) (of_states g) a.machines b.machines k x y same x_is y_is

    pub states_long : length x.states ≡ length y.states
    states_long =
        same_long (λ (state : StateDecl). state.name) (λ state. state.name) x.states y.states
        (of_both_states (λ state. state.name) (λ state. state.name) shape.machines.state_names)

    -- how many values each state variable has
    values_same :
        map (λ (state : StateDecl). values_of a.domains (Some state.domain)) x.states
        ≡ map (λ (state : StateDecl). values_of b.domains (Some state.domain)) y.states
    values_same =
        sym (counts a x.states)
        ∙ ap (map (λ (words : List (List ℕ)). length words))
        (of_both_states (state_words a) (state_words b) shape.machines.state_words)
        ∙ counts b y.states
      where
        counts : (net : Network) (states : List StateDecl)
            → map (λ (words : List (List ℕ)). length words) (map (state_words net) states)
            ≡ map (λ (state : StateDecl). values_of net.domains (Some state.domain)) states
        counts net [] = refl
        counts net (state ∷ states) =
            ap (λ n. n ∷ map (λ (words : List (List ℕ)). length words)
            (map (state_words net) states)) (long_words_in net state.domain)
            ∙ ap (λ ns. values_of net.domains (Some state.domain) ∷ ns) (counts net states)

    event_sizes_same : (events : List ℕ)
        → map (λ e. 1 + event_values a.domains a.events e) events
        ≡ map (λ e. 1 + event_values b.domains b.events e) events
    event_sizes_same [] = refl
    event_sizes_same (e ∷ events) =
        ap (λ n. (1 + n) ∷ map (λ e. 1 + event_values a.domains a.events e) events) (same_values e)
        ∙ ap (λ ns. (1 + event_values b.domains b.events e) ∷ ns) (event_sizes_same events)

    vars_of : (net : Network) (machine : Machine) → slice_get net.machines k ≡ Some machine
        → machine.vars ≡ map (λ e. 1 + event_values net.domains net.events e) machine.inputs
        ++ map (λ state. values_of net.domains (Some state.domain)) machine.states
    vars_of net machine is =
        same_numbers machine.vars
        (map (λ e. 1 + event_values net.domains net.events e) machine.inputs
        ++ map (λ state. values_of net.domains (Some state.domain)) machine.states)
        (all_get (has_vars net.domains net.events) net.machines k machine net.sized_vars is)

    pub vars_same : x.vars ≡ y.vars
    vars_same =
        vars_of a x x_is
        ∙ ap (λ (inputs : List ℕ). map (λ e. 1 + event_values a.domains a.events e) inputs
        ++ map (λ (state : StateDecl). values_of a.domains (Some state.domain)) x.states)
        inputs_same
        ∙ ap (λ (ns : List ℕ). ns
        ++ map (λ (state : StateDecl). values_of a.domains (Some state.domain)) x.states)
        (event_sizes_same y.inputs)
        ∙ ap (λ (ns : List ℕ). map (λ e. 1 + event_values b.domains b.events e) y.inputs ++ ns)
        values_same
        ∙ sym (vars_of b y y_is)

    -- `go` and one result per state variable
    first_results : (machine : Machine)
        → take (1 + length machine.states) machine.results
        ≡ 2 ∷ map (λ size. 1 + size) (drop (length machine.inputs) machine.vars)
    first_results machine =
        let long : Bool = length machine.results == 1 + length machine.states
        + length machine.outputs in
        let front : List ℕ = 2 ∷ map (λ size. 1 + size)
        (drop (length machine.inputs) machine.vars) in
        let begins : Bool = pointwise ◌==◌ front (take (1 + length machine.states)
        machine.results) in
        let many : Bool = list_all (nat_le 2) (drop (1 + length machine.states)
        machine.results) in
        sym (same_numbers front (take (1 + length machine.states) machine.results)
        (and_parts long begins (and_parts (long && begins) many machine.sized_results).0).1)

    -- and those of the outputs
    last_results : (net : Network) (machine : Machine) → slice_get net.machines k ≡ Some machine
        → drop (1 + length machine.states) machine.results
        ≡ map (λ e. 1 + event_values net.domains net.events e) machine.outputs
    last_results net machine is =
        same_numbers (drop (1 + length machine.states) machine.results)
        (map (λ e. 1 + event_values net.domains net.events e) machine.outputs)
        (all_get (has_outputs net.domains net.events) net.machines k machine net.sized_outputs
        is)

    pub results_same : x.results ≡ y.results
    results_same =
        sym (take-append-drop (1 + length x.states) x.results)
        ∙ ap (λ (ns : List ℕ). ns ++ drop (1 + length x.states) x.results) front
        ∙ ap (λ (ns : List ℕ). take (1 + length y.states) y.results ++ ns) back
        ∙ take-append-drop (1 + length y.states) y.results
      where
        front : take (1 + length x.states) x.results ≡ take (1 + length y.states) y.results
        front =
            first_results x
            ∙ ap (λ (inputs : List ℕ). 2 ∷ map (λ size. 1 + size) (drop (length inputs) x.vars))
            inputs_same
            ∙ ap (λ (vars : List ℕ). 2 ∷ map (λ size. 1 + size) (drop (length y.inputs) vars))
            vars_same
            ∙ sym (first_results y)

        back : drop (1 + length x.states) x.results ≡ drop (1 + length y.states) y.results
        back =
            last_results a x x_is
            ∙ event_sizes_same x.outputs
            ∙ ap (map (λ e. 1 + event_values b.domains b.events e)) outputs_same
            ∙ sym (last_results b y y_is)

    pub form_same : SameForm x y
    form_same = record {
      inputs = inputs_same;
      outputs = outputs_same;
      initial_values = of_both_states (λ state. state.init) (λ state. state.init)
          shape.machines.initial_values;
      vars = vars_same;
      results = results_same;
    }
