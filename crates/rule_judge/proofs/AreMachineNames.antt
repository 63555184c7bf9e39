-- The places of machines whose names are numbered are those of the machines.
use Rattle.std.proofs.Common.{◌≡◌, ℕ, List, [], ◌∷◌, ◌++◌, flat_map, refl}
use Rattle.net_reader.specs.declared.raw.RawMachine.{RawMachine}
use Rattle.net_reader.specs.declared.raw.RawNet.{RawNet}
use Rattle.net_names.specs.Machines.{AreMachineNames}
use Rattle.net_names.specs.declared.machine_names.MachineNames.{MachineNames}

pub of_names : (f : RawNet → RawMachine → List ℕ) (net : RawNet) (ms : List RawMachine)
    (ls : List MachineNames) → AreMachineNames net ms ls
    → flat_map (λ (n : MachineNames). f n.scope.now.raw.now n.machine.now) ls ≡ flat_map (f net) ms
of_names f net [] [] all = refl
of_names f net [] (l ∷ ls) all = absurd all
of_names f net (m ∷ ms) [] all = absurd all
of_names f net (m ∷ ms) (l ∷ ls) all =
    let rest = of_names f net ms ls all.1 in
    λ i. f (all.0.0 i) (all.0.1 i) ++ rest i
