-- What a machine keeps, where no rule is broken.
use Rattle.std.proofs.Common.{◌≡◌, true, ◌&&◌, List, map, length, arith}
use Rattle.std.proofs.lemmas.List.{length-map}
use Rattle.std.specs.List.{AllZip}
use Rattle.transition_table.specs.MachineFacts.{is_small}
use Rattle.transition_table.specs.declared.row.Row.{Row}
use Rattle.net_reader.specs.declared.raw.Word.{Word}
use Rattle.net_reader.specs.declared.raw.RawMachine.{RawMachine}
use Rattle.net_reader.specs.declared.raw.RawNet.{RawNet}
use Rattle.net_names.specs.Scopes.{event_words, var_sizes}
use Rattle.net_rules.specs.Networks.{state_of, IsRowOf}
use Rattle.net_names.specs.Numbers.{number}
use Rattle.net_rules.specs.inner.Sound.{IsSound, IsSoundMachine}
use Rattle.net_rules.proofs.MachineFacts.{few_inputs, few_outputs, few_states, few_rows}
use Rattle.std.proofs.lemmas.Bool.{le-leb}
use Rattle.polis_base.proofs.Places.{zip_length}

-- the machine is within the limits
pub small_kept : (net : RawNet) (m : RawMachine) → IsSound net → IsSoundMachine net m
    → (rows : List Row) → AllZip (IsRowOf net m) m.rows rows
    → is_small (map (λ (w : Word). number (event_words net) w.name) m.inputs)
    (map (λ (w : Word). number (event_words net) w.name) m.outputs)
    (map (state_of net) m.states) (var_sizes net m) rows ≡ true
small_kept net m sound kept rows all =
    let ins = le-leb (length (map (λ (w : Word). number (event_words net) w.name) m.inputs)) 16
    (omega (
      arith,
      length-map m.inputs (λ (w : Word). number (event_words net) w.name),
      few_inputs net m sound kept,
    )) in
    let outs = le-leb (length (map (λ (w : Word). number (event_words net) w.name) m.outputs)) 16
    (omega (
      arith,
      length-map m.outputs (λ (w : Word). number (event_words net) w.name),
      few_outputs net m sound kept,
    )) in
    let states = le-leb (length (map (state_of net) m.states)) 8
    (omega (arith, length-map m.states (state_of net), few_states net m sound kept)) in
    let long = le-leb (length rows) 512
    (omega (arith, zip_length (IsRowOf net m) m.rows rows all, few_rows net m sound kept)) in
    λ i. (((ins i && outs i) && states i) && long i) && kept.snapshots i
