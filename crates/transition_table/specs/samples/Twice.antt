-- A machine that passes a value on, by a row for each value and one for the value 1.
--   input v : 0 .. 7; output w : 0 .. 7
--   when v do emit w = value v
--   when v = 1 do emit w = ..
use Rattle.std.specs.Prelude.{ℕ, List, [], ◌∷◌, codes, refl}
use Rattle.transition_table.specs.declared.row.Row.{Row}
use Rattle.transition_table.specs.declared.machine.Machine.{Machine}
use Rattle.transition_table.specs.samples.Parts.{has_codes, gives, copies, Table, machine_of}

-- the second row emits this code
abbrev pub twice_rows : ℕ → List Row
twice_rows code =
    record { conds = has_codes 0 510 ∷ []; acts = copies 1 0 ∷ []; actions = refl }
    ∷ record { conds = has_codes 0 4 ∷ []; acts = gives 1 code ∷ []; actions = refl } ∷ []

abbrev pub twice_table : ℕ → Table
twice_table code = record {
  name = codes "m";
  priority = 0;
  inputs = 0 ∷ [];
  outputs = 1 ∷ [];
  states = [];
  vars = 9 ∷ [];
  results = 2 ∷ 9 ∷ [];
  rows = twice_rows code;
}

-- it emits the value 1, too
abbrev pub agreeing_machine : Machine
agreeing_machine = machine_of (twice_table 2) refl

-- it emits the value 0
abbrev pub differing_machine : Machine
differing_machine = machine_of (twice_table 1) refl
