-- The sizes of a machine's variables.
use Rattle.std.proofs.Common.{◌≡◌, ◌<◌, ◌≤◌, ◌+◌, ℕ, zero, suc, true, ◌&&◌, ◌==◌, nat_le, List, [], ◌∷◌, length, take, slice_get, slice_index, Some, arith}
use Rattle.std.proofs.lemmas.Option.{get_or_from_slice_get}
use Rattle.std.specs.List.{list_all}
use Rattle.std.proofs.lemmas.Bool.{leb-true, and_parts}
use Rattle.domains.specs.Tables.{are_sizes}
use Rattle.transition_table.specs.declared.machine.Machine.{Machine}

-- each size is 1 to 33
pub size_at : (sizes : List ℕ) (k : ℕ) → are_sizes sizes ≡ true → k < length sizes
    → (1 ≤ slice_index sizes k) × (slice_index sizes k ≤ 33)
size_at [] k h below = absurd (omega arith)
size_at (size ∷ sizes) zero h below =
    let parts = and_parts (nat_le 1 size) (nat_le size 33)
    (and_parts (nat_le 1 size && nat_le size 33) (are_sizes sizes) h).0 in
    (leb-true 1 size parts.0, leb-true size 33 parts.1)
size_at (size ∷ sizes) (suc k) h below =
    size_at sizes k (and_parts (nat_le 1 size && nat_le size 33) (are_sizes sizes) h).1
    (omega arith)

-- a machine's sizes are sizes
pub machine_sizes : (m : Machine) → are_sizes m.vars ≡ true
machine_sizes m =
    (and_parts (are_sizes m.vars) (length m.vars == length m.inputs + length m.states)
    (and_parts (are_sizes m.vars && length m.vars == length m.inputs + length m.states)
    (list_all (nat_le 2) (take (length m.inputs) m.vars))
    (and_parts (are_sizes m.vars && length m.vars == length m.inputs + length m.states
    && list_all (nat_le 2) (take (length m.inputs) m.vars)) _ m.sized_vars).0).0).0

pub size_of_var : (m : Machine) (k size : ℕ) → slice_get m.vars k ≡ Some size → k < length m.vars
    → size ≤ 33
size_of_var m k size at below =
    rw (get_or_from_slice_get m.vars k size 0 at) at (size_at m.vars k (machine_sizes m) below).1
