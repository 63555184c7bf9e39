-- A machine is small.
use Rattle.std.proofs.Common.{◌+◌, ◌≤◌, length, arith, nat_le}
use Rattle.std.proofs.lemmas.Bool.{leb-true}
use Rattle.transition_table.specs.declared.machine.Machine.{Machine}
use Rattle.transition_table.proofs.Ranges.{vars_length, results_parts}
use Rattle.polis_base.proofs.Bools.{and_first, and_second}

-- a machine has at most 24 variables and 25 results
pub few_items : (m : Machine) → length m.vars + length m.results + length m.results ≤ 74
few_items m =
    let ports = and_first _ (nat_le (length m.rows) 512) (and_first _ _ m.small) in
    let both = and_first _ (nat_le (length m.states) 8) ports in
    let inputs = leb-true (length m.inputs) 16 (and_first _ _ both) in
    let outputs =
    leb-true (length m.outputs) 16 (and_second (nat_le (length m.inputs) 16) _ both) in
    let states = leb-true (length m.states) 8 (and_second _ _ ports) in
    let vars = vars_length m in
    let results = (results_parts m).0 in
    omega arith
