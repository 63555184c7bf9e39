-- The signals of a machine by its lists.
use Rattle.std.specs.Prelude.{◌≡◌, ℕ, ◌+◌, [], map, length, slice_get, Option, Some, option_map, unwrap_or}
use Rattle.std.proofs.Common.{ap, arith}
use Rattle.std.proofs.lemmas.List.{length-append, length-map}
use Rattle.polis_base.specs.Lists.{upto}
use Rattle.transition_table.specs.declared.machine.Machine.{Machine}
use Rattle.transition_table.specs.declared.network.Network.{Network}
use Rattle.journals.specs.Journals.{inputs_of, states_of}
use Rattle.wave_text.specs.Signals.{snapshot_signals, loss_signals}
use Rattle.wave_text.specs.declared.signal.Signal.TheVariants.{Input, State, Loss}
use Rattle.journals.proofs.MomentsAfter.{length_table}

pub states_of_machine : (net : Network) (m : ℕ) (machine : Machine)
    → slice_get net.machines m ≡ Some machine
    → states_of net m ≡ machine.states
states_of_machine net m machine at =
    ap (λ (o : Option Machine). unwrap_or (option_map (λ machine. machine.states) o) []) at

pub snapshot_signals_many : (net : Network) (m : ℕ)
    → length (snapshot_signals net m) ≡ length (inputs_of net m) + length (states_of net m)
snapshot_signals_many net m =
    let states = length (states_of net m) in
    let a = length-append (map (Input m) (inputs_of net m)) (map (State m) (upto states)) in
    let b = length-map (inputs_of net m) (Input m) in
    let c = length_table (State m) states in
    omega arith

pub loss_signals_many : (net : Network) (m : ℕ)
    → length (loss_signals net m) ≡ length (inputs_of net m)
loss_signals_many net m = length-map (inputs_of net m) (Loss m)
