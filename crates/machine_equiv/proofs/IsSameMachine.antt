-- Lists of events, state variables and machines agree where their items do.
use Rattle.std.proofs.Common.{◌≡◌, ℕ, ◌<◌, ◌&&◌, Bool, true, List, length, slice_get, Some, nat_lt}
use Rattle.std.specs.List.{list_all}
use Rattle.std.proofs.lemmas.Bool.{and_parts, ltb-true}
use Rattle.transition_table.specs.NetworkFacts.{has_domain, is_numbered}
use Rattle.transition_table.specs.declared.decl.EventDecl.{EventDecl}
use Rattle.transition_table.specs.declared.decl.StateDecl.{StateDecl}
use Rattle.transition_table.specs.declared.machine.Machine.{Machine}
use Rattle.transition_table.specs.declared.network.Network.{Network}
use Rattle.polis_base.specs.Lists.{AgreeBelow}
use Rattle.transition_table.specs.EventWords.{event_words}
use Rattle.machine_equiv.specs.inner.Agreeing.{AreSameStates, IsSameEvent, IsSameMachine, IsSameState}
use Rattle.machine_equiv.specs.Shapes.{SameEvents, SameMachines, of_states, state_words}
use Rattle.polis_base.proofs.AgreeBelow.{at_both, column}
use Rattle.polis_base.proofs.ListTests.{all_get}

module _ (a b : Network) where
  -- ---- events

  pub event_at : (k : ℕ) (x y : EventDecl) → SameEvents a b → slice_get a.events k ≡ Some x
      → slice_get b.events k ≡ Some y → IsSameEvent a b x y
  event_at k x y same x_is y_is = record {
    name = at_both (λ (event : EventDecl). event.name) (λ event. event.name) a.events b.events k x y
        same.names x_is y_is;
    words = at_both (event_words a) (event_words b) a.events b.events k x y same.words x_is y_is;
    sender = at_both (λ (event : EventDecl). event.sender) (λ event. event.sender) a.events b.events
        k x y same.senders x_is y_is;
    to_env = at_both (λ (event : EventDecl). event.to_env) (λ event. event.to_env) a.events b.events
        k x y same.to_env x_is y_is;
    receivers = at_both (λ (event : EventDecl). event.receivers) (λ event. event.receivers) a.events
        b.events k x y same.receivers x_is y_is;
  }

  pub events_agree : length a.events ≡ length b.events
      → AgreeBelow (IsSameEvent a b) a.events b.events (length a.events) → SameEvents a b
  events_agree long agree = record {
    names = column (λ (event : EventDecl). event.name) (λ event. event.name) a.events b.events long
        (λ k x y low here there. (agree k x y low here there).name);
    words = column (event_words a) (event_words b) a.events b.events long
        (λ k x y low here there. (agree k x y low here there).words);
    senders = column (λ (event : EventDecl). event.sender) (λ event. event.sender) a.events b.events
        long (λ k x y low here there. (agree k x y low here there).sender);
    to_env = column (λ (event : EventDecl). event.to_env) (λ event. event.to_env) a.events b.events
        long (λ k x y low here there. (agree k x y low here there).to_env);
    receivers = column (λ (event : EventDecl). event.receivers) (λ event. event.receivers) a.events
        b.events long (λ k x y low here there. (agree k x y low here there).receivers);
  }

  -- ---- state variables

  pub state_at : (xs ys : List StateDecl) (k : ℕ) (x y : StateDecl) → AreSameStates a b xs ys
      → slice_get xs k ≡ Some x → slice_get ys k ≡ Some y → IsSameState a b x y
  state_at xs ys k x y same x_is y_is = record {
    name = at_both (λ (state : StateDecl). state.name) (λ state. state.name) xs ys k x y same.names
        x_is y_is;
    words = at_both (state_words a) (state_words b) xs ys k x y same.words x_is y_is;
    initial_value = at_both (λ (state : StateDecl). state.init) (λ state. state.init) xs ys k x y
        same.initial_values x_is y_is;
  }

  pub states_agree : (xs ys : List StateDecl) → length xs ≡ length ys
      → AgreeBelow (IsSameState a b) xs ys (length xs) → AreSameStates a b xs ys
  states_agree xs ys long agree = record {
    names = column (λ (state : StateDecl). state.name) (λ state. state.name) xs ys long
        (λ k x y low here there. (agree k x y low here there).name);
    words = column (state_words a) (state_words b) xs ys long
        (λ k x y low here there. (agree k x y low here there).words);
    initial_values = column (λ (state : StateDecl). state.init) (λ state. state.init) xs ys long
        (λ k x y low here there. (agree k x y low here there).initial_value);
  }

  -- ---- machines

  pub machine_at : (k : ℕ) (x y : Machine) → SameMachines a b → slice_get a.machines k ≡ Some x
      → slice_get b.machines k ≡ Some y → IsSameMachine a b x y
  machine_at k x y same x_is y_is = record {
    name = at_both (λ (machine : Machine). machine.name) (λ machine. machine.name) a.machines
        b.machines k x y same.names x_is y_is;
    inputs = at_both (λ (machine : Machine). machine.inputs) (λ machine. machine.inputs) a.machines
        b.machines k x y same.inputs x_is y_is;
    outputs = at_both (λ (machine : Machine). machine.outputs) (λ machine. machine.outputs)
        a.machines b.machines k x y same.outputs x_is y_is;
    states = record {
      names = at_both (of_states (λ state. state.name)) (of_states (λ state. state.name)) a.machines
          b.machines k x y same.state_names x_is y_is;
      words = at_both (of_states (state_words a)) (of_states (state_words b)) a.machines b.machines
          k x y same.state_words x_is y_is;
      initial_values = at_both (of_states (λ state. state.init)) (of_states (λ state. state.init))
          a.machines b.machines k x y same.initial_values x_is y_is;
    };
  }

  pub machines_agree : length a.machines ≡ length b.machines
      → AgreeBelow (IsSameMachine a b) a.machines b.machines (length a.machines)
      → SameMachines a b
  machines_agree long agree = record {
    names = column (λ (machine : Machine). machine.name) (λ machine. machine.name) a.machines
        b.machines long (λ k x y low here there. (agree k x y low here there).name);
    inputs = column (λ (machine : Machine). machine.inputs) (λ machine. machine.inputs) a.machines
        b.machines long (λ k x y low here there. (agree k x y low here there).inputs);
    outputs = column (λ (machine : Machine). machine.outputs) (λ machine. machine.outputs)
        a.machines b.machines long (λ k x y low here there. (agree k x y low here there).outputs);
    state_names = column (of_states (λ state. state.name)) (of_states (λ state. state.name))
        a.machines b.machines long
        (λ k x y low here there. (agree k x y low here there).states.names);
    state_words = column (of_states (state_words a)) (of_states (state_words b)) a.machines
        b.machines long (λ k x y low here there. (agree k x y low here there).states.words);
    initial_values = column (of_states (λ state. state.init)) (of_states (λ state. state.init))
        a.machines b.machines long
        (λ k x y low here there. (agree k x y low here there).states.initial_values);
  }

-- ---- domains are there

pub state_domain : (n : ℕ) (states : List StateDecl) (k : ℕ) (state : StateDecl)
    → list_all (λ state. nat_lt state.domain n) states ≡ true → slice_get states k ≡ Some state
    → state.domain < n
state_domain n states k state all is =
    ltb-true state.domain n (all_get (λ state. nat_lt state.domain n) states k state all is)

pub state_domains : (net : Network) (k : ℕ) (machine : Machine)
    → slice_get net.machines k ≡ Some machine
    → list_all (λ state. nat_lt state.domain (length net.domains)) machine.states ≡ true
state_domains net k machine is =
    let inputs : Bool = list_all (λ e. nat_lt e (length net.events)) machine.inputs in
    let outputs : Bool = list_all (λ e. nat_lt e (length net.events)) machine.outputs in
    let states : Bool = list_all (λ state. nat_lt state.domain (length net.domains))
    machine.states in
    (and_parts (inputs && outputs) states
    (all_get (is_numbered net.domains net.events) net.machines k machine net.numbered is)).1
