-- The lines that say what a machine's table leaves open.
use Rattle.std.specs.Prelude.{ℕ, Bool, true, cond, ◌&&◌, List, [], ◌++◌, flat_map, Option, Some, None, codes, decimal}
use Rattle.std.specs.List.{enumerate_from, list_all, zip}
use Rattle.polis_base.specs.Lines.{line}
use Rattle.domains.specs.Tables.{fits}
use Rattle.transition_table.specs.NetworkNames.{event_name}
use Rattle.transition_table.specs.declared.decl.StateDecl.{StateDecl}
use Rattle.transition_table.specs.declared.machine.Machine.{Machine}
use Rattle.transition_table.specs.declared.network.Network.{Network}
use Rattle.journal_text.specs.Texts.{snapshot_text}
use Rattle.table_use.specs.declared.finding.InputLint.{InputLint}
use Rattle.table_use.specs.declared.finding.MachineLint.{MachineLint}
use Rattle.table_use.specs.declared.finding.RowLint.{RowLint}

-- what is named is a snapshot of the machine, where there is one
abbrev pub is_snapshot : Machine → Option (List ℕ) → Bool
is_snapshot machine None = true
is_snapshot machine (Some s) = fits machine.vars s

-- so of all snapshots that are named
abbrev pub are_snapshots : Machine → MachineLint → Bool
are_snapshots machine lint =
    is_snapshot machine lint.jam.least
    && list_all (λ input. is_snapshot machine input.unused.least) lint.inputs

-- ---- lines

-- `machine M seen S fire F jam J`
abbrev pub sums_line : Machine → MachineLint → List ℕ
sums_line machine lint =
    line
    (codes "machine " ++ machine.name ++ codes " seen " ++ decimal lint.seen ++ codes " fire "
    ++ decimal lint.fire ++ codes " jam " ++ decimal lint.jam.count)

-- ` first I ; X`
abbrev pub least_text : Network → Machine → List ℕ → List ℕ
least_text net machine s = codes " first " ++ snapshot_text net machine s

-- `jam M first I ; X`, where a snapshot is jammed
abbrev pub jam_line : Network → Machine → Option (List ℕ) → List ℕ
jam_line net machine None = []
jam_line net machine (Some s) =
    line (codes "jam " ++ machine.name ++ least_text net machine s)

-- `row M K never`, where it is so
abbrev pub never_line : Machine → ℕ × RowLint → List ℕ
never_line machine (r, row) =
    cond row.never
    (line (codes "row " ++ machine.name ++ codes " " ++ decimal r ++ codes " never")) []

-- `row M K repeats L`, where it is so
abbrev pub repeats_line : Machine → ℕ → Option ℕ → List ℕ
repeats_line machine r None = []
repeats_line machine r (Some k) =
    line
    (codes "row " ++ machine.name ++ codes " " ++ decimal r ++ codes " repeats " ++ decimal k)

abbrev pub repeats_of : Machine → ℕ × RowLint → List ℕ
repeats_of machine (r, row) = repeats_line machine r row.repeats

-- `KIND M NAME WORD`, where it is so
abbrev pub note_line : Bool → List ℕ → List ℕ → List ℕ → List ℕ → List ℕ
note_line holds kind machine name word =
    cond holds (line (kind ++ codes " " ++ machine ++ codes " " ++ name ++ codes " " ++ word)) []

-- `input M E ignored`
abbrev pub ignored_input : Network → Machine → ℕ × InputLint → List ℕ
ignored_input net machine (e, input) =
    note_line input.ignored (codes "input") machine.name (event_name net e) (codes "ignored")

-- `state M S ignored`
abbrev pub ignored_state : Machine → StateDecl × Bool → List ℕ
ignored_state machine (variable, ignored) =
    note_line ignored (codes "state") machine.name variable.name (codes "ignored")

-- `output M E never`
abbrev pub never_output : Network → Machine → ℕ × Bool → List ℕ
never_output net machine (e, never) =
    note_line never (codes "output") machine.name (event_name net e) (codes "never")

-- `unused M E N first I ; X`, where there is such a snapshot
abbrev pub unused_line : Network → Machine → List ℕ → ℕ → Option (List ℕ) → List ℕ
unused_line net machine event count None = []
unused_line net machine event count (Some s) =
    line
    (codes "unused " ++ machine.name ++ codes " " ++ event ++ codes " " ++ decimal count
    ++ least_text net machine s)

abbrev pub unused_input : Network → Machine → ℕ × InputLint → List ℕ
unused_input net machine (e, input) =
    unused_line net machine (event_name net e) input.unused.count input.unused.least

-- `large M`, where it is so
abbrev pub large_line : Machine → Bool → List ℕ
large_line machine large = cond large (line (codes "large " ++ machine.name)) []

-- the lines of a machine
abbrev pub lint_text : Network → Machine → MachineLint → List ℕ
lint_text net machine lint =
    sums_line machine lint ++ jam_line net machine lint.jam.least
    ++ flat_map (never_line machine) (enumerate_from 0 lint.rows)
    ++ flat_map (repeats_of machine) (enumerate_from 0 lint.rows)
    ++ flat_map (ignored_input net machine) (zip machine.inputs lint.inputs)
    ++ flat_map (ignored_state machine) (zip machine.states lint.states)
    ++ flat_map (never_output net machine) (zip machine.outputs lint.outputs)
    ++ flat_map (unused_input net machine) (zip machine.inputs lint.inputs)
    ++ large_line machine lint.large
