-- What a network keeps of its machines' lists, and reactions that are read part by part.
use Rattle.std.proofs.Common.{◌≡◌, ◌&&◌, ℕ, true, List, Some, Result, Ok, Err, slice_get, sym, ◌∙◌, ap}
use Rattle.std.proofs.lemmas.Bool.{and_parts}
use Rattle.transition_table.specs.NetworkFacts.{is_numbered}
use Rattle.transition_table.specs.declared.machine.Machine.{Machine}
use Rattle.transition_table.specs.declared.network.Network.{Network}
use Rattle.journal_text.specs.Forms.{Text, Texts}
use Rattle.journal_text.specs.Items.{machine_named, map_read, both_read, snapshot_read, result_read, fired, firing_read}
use Rattle.journal_text.specs.Steps.{are_events, are_states}
use Rattle.journal_text.specs.inner.Steps.{whole}
use Rattle.journal_text.specs.declared.fault.JournalKind.{JournalKind}
use Rattle.polis_base.proofs.ListTests.{all_get}

numbered : (net : Network) (m : ℕ) (machine : Machine) → slice_get net.machines m ≡ Some machine
    → is_numbered net.domains net.events machine ≡ true
numbered net m machine at =
    all_get (is_numbered net.domains net.events) net.machines m machine net.numbered at

pub inputs_numbered : (net : Network) (m : ℕ) (machine : Machine)
    → slice_get net.machines m ≡ Some machine → are_events net machine.inputs ≡ true
inputs_numbered net m machine at =
    let both = and_parts (are_events net machine.inputs && are_events net machine.outputs) _
    (numbered net m machine at) in
    (and_parts (are_events net machine.inputs) _ both.0).0

pub outputs_numbered : (net : Network) (m : ℕ) (machine : Machine)
    → slice_get net.machines m ≡ Some machine → are_events net machine.outputs ≡ true
outputs_numbered net m machine at =
    let both = and_parts (are_events net machine.inputs && are_events net machine.outputs) _
    (numbered net m machine at) in
    (and_parts (are_events net machine.inputs) _ both.0).1

pub states_numbered : (net : Network) (m : ℕ) (machine : Machine)
    → slice_get net.machines m ≡ Some machine → are_states net machine.states ≡ true
states_numbered net m machine at =
    (and_parts (are_events net machine.inputs && are_events net machine.outputs) _
    (numbered net m machine at)).1

-- a fault in what a firing gave, after a good snapshot
pub firing_fault : (net : Network) (name : Text) (m : ℕ) (seen results : Texts × Texts)
    (codes : List ℕ) (kind : JournalKind)
    → Some m ≡ machine_named net name → map_read whole (snapshot_read net m seen) ≡ Ok codes
    → result_read net m results ≡ Err kind
    → firing_read net (machine_named net name) seen results ≡ Err kind
firing_fault net name m seen results codes kind found ok fault =
    ap (λ o. firing_read net o seen results) (sym found) ∙ go (snapshot_read net m seen) ok
  where
    go : (r : Result (List ℕ × List ℕ) JournalKind) → map_read whole r ≡ Ok codes
        → map_read (fired m) (both_read r (result_read net m results)) ≡ Err kind
    go (Ok p) h = ap
        (λ (q : Result (List ℕ × List ℕ) JournalKind). map_read (fired m)
        (both_read (Ok p) q)) fault
    go (Err k) h = cc
