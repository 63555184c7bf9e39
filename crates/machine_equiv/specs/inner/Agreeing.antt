-- Events, state variables and machines of two networks that agree.
use Rattle.std.specs.Prelude.{◌≡◌, ℕ, ◌<◌, nat_lt, List, map, length, slice_get, Some, IsTrue}
use Rattle.std.specs.List.{list_all}
use Rattle.transition_table.specs.declared.decl.EventDecl.{EventDecl}
use Rattle.transition_table.specs.declared.decl.StateDecl.{StateDecl}
use Rattle.transition_table.specs.declared.machine.Machine.{Machine}
use Rattle.transition_table.specs.declared.network.Network.{Network}
use Rattle.transition_table.specs.EventWords.{event_words}
use Rattle.machine_equiv.specs.Shapes.{state_words}

pub record IsSameEvent (a b : Network) (x y : EventDecl) : Type 0 where
  pub name : x.name ≡ y.name
  pub words : event_words a x ≡ event_words b y
  pub sender : x.sender ≡ y.sender
  pub to_env : x.to_env ≡ y.to_env
  pub receivers : x.receivers ≡ y.receivers

pub record IsSameState (a b : Network) (x y : StateDecl) : Type 0 where
  pub name : x.name ≡ y.name
  pub words : state_words a x ≡ state_words b y
  pub initial_value : x.init ≡ y.init

pub record AreSameStates (a b : Network) (xs ys : List StateDecl) : Type 0 where
  pub names : map (λ state. state.name) xs ≡ map (λ state. state.name) ys
  pub words : map (state_words a) xs ≡ map (state_words b) ys
  pub initial_values : map (λ state. state.init) xs ≡ map (λ state. state.init) ys

pub record IsSameMachine (a b : Network) (x y : Machine) : Type 0 where
  pub name : x.name ≡ y.name
  pub inputs : x.inputs ≡ y.inputs
  pub outputs : x.outputs ≡ y.outputs
  pub states : AreSameStates a b x.states y.states

-- the network has the domains of the state variables
abbrev pub HaveDomains : Network → List StateDecl → Type 0
HaveDomains net states =
    IsTrue (list_all (λ state. nat_lt state.domain (length net.domains)) states)
