-- The inputs of a machine, and what stands in their buffers.
use Rattle.std.specs.Prelude.{◌≡◌, ℕ, ◌<◌, Bool, ◌&&◌, nat_lt, List, [], map, length, slice_get, slice_index, Option, Some, option_map, unwrap_or}
use Rattle.std.specs.List.{list_all}
use Rattle.std.proofs.Common.{ap, ◌∙◌, subst, arith}
use Rattle.std.proofs.lemmas.List.{get_or_append_left, get_or-map, length-map}
use Rattle.std.proofs.lemmas.Bool.{and_parts, ltb-true}
use Rattle.std.proofs.lemmas.Option.{slice_get_within, get_or_from_slice_get}
use Rattle.polis_base.specs.Lists.{upto}
use Rattle.transition_table.specs.NetworkFacts.{is_numbered}
use Rattle.transition_table.specs.declared.machine.Machine.{Machine}
use Rattle.transition_table.specs.declared.network.Network.{Network}
use Rattle.journals.specs.declared.entry.Entry.{Entry}
use Rattle.journals.specs.Journals.{inputs_of, buffered, snap, state, states_of}
use Rattle.event_accounts.specs.Accounts.{Buffer}
use Rattle.polis_base.proofs.ListTests.{all_get}

pub inputs_of_machine : (net : Network) (m : ℕ) (machine : Machine)
    → slice_get net.machines m ≡ Some machine
    → inputs_of net m ≡ machine.inputs
inputs_of_machine net m machine at =
    ap (λ (o : Option Machine). unwrap_or (option_map (λ machine. machine.inputs) o) []) at

-- an input of a machine is an event of the network
pub input_within : (net : Network) (m i e : ℕ) (machine : Machine)
    → slice_get net.machines m ≡ Some machine → slice_get (inputs_of net m) i ≡ Some e
    → e < length net.events
input_within net m i e machine there at =
    let small : ℕ → Bool = λ e. nat_lt e (length net.events) in
    let here = all_get (is_numbered net.domains net.events) net.machines m machine
    net.numbered there in
    let mine = (and_parts (list_all small machine.inputs) (list_all small machine.outputs)
    (and_parts (list_all small machine.inputs && list_all small machine.outputs) _ here).0).0 in
    ltb-true e (length net.events)
    (all_get small machine.inputs i e mine
    (subst (λ (l : List ℕ). slice_get l i ≡ Some e) (inputs_of_machine net m machine there) at))

-- the buffer is one of the network
abbrev pub IsBuffer : Network → Buffer → Type 0
IsBuffer net b = slice_get (inputs_of net b.machine) b.place ≡ Some b.event

-- the input's code in the snapshot of the moment
pub code_of_place : (net : Network) (journal : List Entry) (b : Buffer) → IsBuffer net b
    → slice_index (snap net journal b.machine).codes b.place ≡ buffered journal b.machine b.event
code_of_place net journal b at =
    let m = b.machine in
    let inputs = inputs_of net m in
    let rest = map (state net journal m) (upto (length (states_of net m))) in
    let within = slice_get_within inputs b.place b.event at in
    let size = length-map inputs (buffered journal m) in
    get_or_append_left (map (buffered journal m) inputs) rest 0 b.place (omega arith)
    ∙ get_or-map (buffered journal m) inputs b.place 0 0 within
    ∙ ap (buffered journal m) (get_or_from_slice_get inputs b.place b.event 0 at)
