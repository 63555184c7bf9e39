-- A network that a text declares has a machine, and each machine has an input.
use Rattle.std.proofs.Common.{◌≡◌, ℕ, zero, suc, ◌≤◌, List, [], ◌∷◌, length, slice_get, Some, refl, ap, subst, arith}
use Rattle.std.proofs.lemmas.List.{length-map}
use Rattle.std.specs.List.{AllZip}
use Rattle.transition_table.specs.declared.machine.Machine.{Machine}
use Rattle.transition_table.specs.declared.network.Network.{Network}
use Rattle.net_reader.specs.Lexemes.{Lexeme}
use Rattle.net_reader.specs.Grammar.{Part, Each, OneAnd, IsMachine}
use Rattle.net_reader.specs.declared.raw.RawMachine.{RawMachine}
use Rattle.net_reader.specs.declared.raw.RawNet.{RawNet}
use Rattle.net_reader.specs.declared.raw.Word.{Word}
use Rattle.net_names.specs.Numbers.{number}
use Rattle.net_names.specs.Scopes.{event_words}
use Rattle.net_rules.specs.NetOf.{NetOf}
use Rattle.net_rules.specs.Networks.{IsMachineOf}
use Rattle.net_rules.specs.Whole.{HasMachines}
use Rattle.polis_base.proofs.Places.{zip_length}

-- one item stands in a list that is never empty
some_item : {A : Type 0} (P Q : A → Part) (xs : List A) (ts : List Lexeme) → OneAnd P Q xs ts
    → 1 ≤ length xs
some_item P Q [] ts h = absurd h
some_item P Q (x ∷ xs) ts h = omega arith

-- each input list has an item
machine_inputs : (version : ℕ) (m : RawMachine) (ts : List Lexeme) → IsMachine version m ts
    → 1 ≤ length m.inputs
machine_inputs version m ts h = some_item _ _ m.inputs _ h.4.4.4.4.4.4.3

all_inputs : (version : ℕ) (ms : List RawMachine) (ts : List Lexeme)
    → Each (IsMachine version) ms ts → (k : ℕ) (m : RawMachine) → slice_get ms k ≡ Some m
    → 1 ≤ length m.inputs
all_inputs version [] ts h k m at = cc
all_inputs version (x ∷ ms) ts h zero m at =
    let same : x ≡ m = cc in
    subst (λ (r : RawMachine). 1 ≤ length r.inputs) same (machine_inputs version x _ h.3)
all_inputs version (x ∷ ms) ts h (suc k) m at = all_inputs version ms _ h.4 k m at

each_input : (version : ℕ) (ms : List RawMachine) (ts : List Lexeme)
    → OneAnd (IsMachine version) (IsMachine version) ms ts → (k : ℕ) (m : RawMachine)
    → slice_get ms k ≡ Some m → 1 ≤ length m.inputs
each_input version [] ts h k m at = absurd h
each_input version (x ∷ ms) ts h k m at = all_inputs version (x ∷ ms) ts h k m at

-- the declaration of a machine
declared : (raw : RawNet) (rs : List RawMachine) (ms : List Machine)
    → AllZip (IsMachineOf raw) rs ms → (k : ℕ) (m : Machine) → slice_get ms k ≡ Some m
    → (r : RawMachine) × (slice_get rs k ≡ Some r) × IsMachineOf raw r m
declared raw [] [] all k m at = cc
declared raw [] (y ∷ ys) all k m at = absurd all
declared raw (x ∷ xs) [] all k m at = absurd all
declared raw (x ∷ xs) (y ∷ ys) all zero m at =
    let same : y ≡ m = cc in
    (x, refl, rw same at all.0)
declared raw (x ∷ xs) (y ∷ ys) all (suc k) m at = declared raw xs ys all.1 k m at

-- and a machine has as many inputs as its declaration
kept_inputs : (raw : RawNet) (r : RawMachine) (m : Machine) → IsMachineOf raw r m
    → 1 ≤ length r.inputs → 1 ≤ length m.inputs
kept_inputs raw r m is many =
    let mapped = length-map r.inputs (λ (w : Word). number (event_words raw) w.name) in
    let same = ap (λ (xs : List ℕ). length xs) is.inputs in
    omega (arith, many, same, mapped)

pub has_machines : (text : List ℕ) (net : Network) → NetOf text net → HasMachines net
has_machines text net (raw, has, is) =
    let machines = has.sentence.4.4.4.4.4.4 in
    let is_one = IsMachine raw.version.number in
    let some = some_item is_one is_one raw.machines _ machines in
    let long = zip_length (IsMachineOf raw) raw.machines net.machines is.1.machines in
    record {
      some = omega (arith, some, long);
      inputs = λ k m at.
          let d = declared raw raw.machines net.machines is.1.machines k m at in
          kept_inputs raw d.0 m d.2
          (each_input raw.version.number raw.machines _ machines k d.0 d.1);
    }
