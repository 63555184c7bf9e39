-- What a network says of the events of its machines.
use Rattle.std.proofs.Common.{◌≡◌, ℕ, ◌<◌, nat_lt, true, length, slice_get, Option, Some, [], option_map, unwrap_or, List, sym, ap, ◌∙◌}
use Rattle.std.proofs.lemmas.Bool.{ltb-true}
use Rattle.transition_table.specs.NetworkFacts.{has_vars}
use Rattle.transition_table.specs.NetworkNames.{event_name}
use Rattle.transition_table.specs.declared.decl.EventDecl.{EventDecl}
use Rattle.transition_table.specs.declared.machine.Machine.{Machine}
use Rattle.transition_table.specs.declared.network.Network.{Network}
use Rattle.journal_text.proofs.Machines.{inputs_numbered, outputs_numbered}
use Rattle.table_use.specs.inner.Lines.{StandsIn}
use Rattle.polis_base.proofs.ListTests.{all_get}

pub input_within : (net : Network) (machine : Machine) (i e : ℕ) → StandsIn net machine
    → slice_get machine.inputs i ≡ Some e → e < length net.events
input_within net machine i e (m, at) there =
    ltb-true e (length net.events)
    (all_get (λ k. nat_lt k (length net.events)) machine.inputs i e
    (inputs_numbered net m machine at) there)

pub output_within : (net : Network) (machine : Machine) (y e : ℕ) → StandsIn net machine
    → slice_get machine.outputs y ≡ Some e → e < length net.events
output_within net machine y e (m, at) there =
    ltb-true e (length net.events)
    (all_get (λ k. nat_lt k (length net.events)) machine.outputs y e
    (outputs_numbered net m machine at) there)

pub vars_sized : (net : Network) (machine : Machine) → StandsIn net machine
    → has_vars net.domains net.events machine ≡ true
vars_sized net machine (m, at) =
    all_get (has_vars net.domains net.events) net.machines m machine net.sized_vars at

-- the name of an event that stands there
pub name_of_event : (net : Network) (e : ℕ) (event : EventDecl) (name : List ℕ)
    → slice_get net.events e ≡ Some event → name ≡ event.name → name ≡ event_name net e
name_of_event net e event name at is =
    is
    ∙ ap (λ (o : Option EventDecl). unwrap_or (option_map (λ event. event.name) o) []) (sym at)
