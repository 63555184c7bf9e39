-- The lines that say what a journal used of its network's tables.
use Rattle.std.specs.Prelude.{ℕ, Bool, cond, ◌==◌, List, [], ◌++◌, count_by, flat_map, Option, Some, None, codes, decimal}
use Rattle.std.specs.List.{enumerate_from, zip}
use Rattle.polis_base.specs.Lines.{line}
use Rattle.polis_base.specs.Lists.{places_where}
use Rattle.transition_table.specs.NetworkNames.{event_name}
use Rattle.transition_table.specs.declared.machine.Machine.{Machine}
use Rattle.transition_table.specs.declared.network.Network.{Network}
use Rattle.table_use.specs.declared.tally.Tally.{Tally}
use Rattle.table_use.specs.declared.used.InputUse.{InputUse}
use Rattle.table_use.specs.declared.used.MachineUse.{MachineUse}

-- the place of the first entry that is counted, or `-` where none is
abbrev pub first_text : Option ℕ → List ℕ
first_text None = codes "-"
first_text (Some place) = decimal place

-- `machine M fired F idle I jammed J first P`
abbrev pub machine_line : Machine → MachineUse → List ℕ
machine_line machine used =
    line
    (codes "machine " ++ machine.name ++ codes " fired " ++ decimal used.fired.count
    ++ codes " idle " ++ decimal used.idle.count ++ codes " jammed " ++ decimal used.jammed.count
    ++ codes " first " ++ first_text used.jammed.first)

-- the row is taken by no firing
abbrev pub is_untaken : Tally → Bool
is_untaken taken = taken.count == 0

-- `row M K taken T`, of a row that is taken
abbrev pub taken_line : Machine → ℕ × Tally → List ℕ
taken_line machine (r, taken) =
    cond (is_untaken taken) []
    (line
    (codes "row " ++ machine.name ++ codes " " ++ decimal r ++ codes " taken "
    ++ decimal taken.count))

-- each number with a space before it
abbrev pub number_text : ℕ → List ℕ
number_text n = codes " " ++ decimal n

abbrev pub numbers_text : List ℕ → List ℕ
numbers_text numbers = flat_map number_text numbers

-- `never M N : K K K`, where there are rows that aren't taken
abbrev pub never_line : Machine → List Tally → List ℕ
never_line machine rows =
    cond (count_by is_untaken rows == 0) []
    (line
    (codes "never " ++ machine.name ++ codes " " ++ decimal (count_by is_untaken rows)
    ++ codes " :" ++ numbers_text (places_where is_untaken rows)))

-- `input M E read R unused U first P`, of a machine and an event with these names
abbrev pub input_line : List ℕ → List ℕ → InputUse → List ℕ
input_line machine event input =
    line
    (codes "input " ++ machine ++ codes " " ++ event ++ codes " read "
    ++ decimal input.read.count ++ codes " unused " ++ decimal input.unused.count
    ++ codes " first " ++ first_text input.unused.first)

-- the line of an input, which has this event
abbrev pub line_of_input : Network → Machine → ℕ × InputUse → List ℕ
line_of_input net machine (e, input) = input_line machine.name (event_name net e) input

-- the lines of a machine
abbrev pub machine_text : Network → Machine × MachineUse → List ℕ
machine_text net (machine, used) =
    machine_line machine used ++ flat_map (taken_line machine) (enumerate_from 0 used.rows)
    ++ never_line machine used.rows
    ++ flat_map (line_of_input net machine) (zip machine.inputs used.inputs)

-- those of each machine, in order
abbrev pub coverage_text : Network → List MachineUse → List ℕ
coverage_text net used = flat_map (machine_text net) (zip net.machines used)
