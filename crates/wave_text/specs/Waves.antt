-- The text of a wave, a value change dump (IEEE 1364) with the string signals that viewers read.
use Rattle.std.specs.Prelude.{ℕ, ◌+◌, cond, not, ◌&&◌, ◌==◌, List, [], ◌++◌, flat_map, length, slice_get, Option, Some, None, codes, decimal}
use Rattle.std.specs.List.{enumerate_from}
use Rattle.std.specs.Option.{option_map_or}
use Rattle.polis_base.specs.Lines.{line}
use Rattle.polis_base.specs.Lists.{upto}
use Rattle.transition_table.specs.NetworkNames.{machine_name}
use Rattle.transition_table.specs.declared.network.Network.{Network}
use Rattle.journals.specs.declared.entry.Entry.{Entry}
use Rattle.wave_text.specs.Signals.{changes_at, signal_code, emission_signals, first_number, loss_signals, signals, snapshot_signals, value_signals}
use Rattle.wave_text.specs.Words.{code_word, domain_of, kind_of, name_of}
use Rattle.wave_text.specs.declared.signal.Change.{Change}
use Rattle.wave_text.specs.declared.signal.Signal.{Signal}

-- ---- what is declared

-- the line that declares the signal of this number, which is its identifier
abbrev pub var_line : Network → ℕ × Signal → List ℕ
var_line net (k, signal) =
    line
    (codes "$var " ++ kind_of net signal ++ codes " 1 " ++ decimal k ++ codes " "
    ++ name_of net signal ++ codes " $end")

-- the lines of signals numbered from n on
abbrev pub var_lines : Network → ℕ → List Signal → List ℕ
var_lines net n list = flat_map (var_line net) (enumerate_from n list)

abbrev pub scope_line : List ℕ → List ℕ
scope_line name = line (codes "$scope module " ++ name ++ codes " $end")

abbrev pub scope_end : List ℕ
scope_end = line (codes "$upscope $end")

-- a machine's scope: its inputs and state variables, and a scope with the losses of its inputs
abbrev pub machine_scope : Network → ℕ → List ℕ
machine_scope net m =
    let n = first_number net m in
    scope_line (machine_name net m)
    ++ var_lines net n (snapshot_signals net m)
    ++ scope_line (codes "lost-events")
    ++ var_lines net (n + length (snapshot_signals net m)) (loss_signals net m)
    ++ scope_end ++ scope_end

-- values, numbered from n on, in a scope of their own where there are any
abbrev pub value_scope : Network → ℕ → List Signal → List ℕ
value_scope net n list =
    cond (length list == 0) []
    (scope_line (codes "last-values") ++ var_lines net n list ++ scope_end)

-- what goes to the environment: the emissions, and the values
abbrev pub env_scope : Network → List ℕ
env_scope net =
    let n = first_number net (length net.machines) in
    scope_line (codes "env")
    ++ var_lines net n (emission_signals net)
    ++ value_scope net (n + length (emission_signals net)) (value_signals net)
    ++ scope_end

-- the head, which declares the signals
abbrev pub head_text : Network → List ℕ
head_text net =
    line (codes "$version polis wave 1 $end")
    ++ line (codes "$timescale 1 ns $end")
    ++ scope_line net.name
    ++ flat_map (machine_scope net) (upto (length net.machines))
    ++ env_scope net
    ++ scope_end
    ++ line (codes "$enddefinitions $end")

-- ---- what is so, and what changes

-- the code of a signal as a word between `s` and a space, or, where it has no words, as one bit
abbrev pub written_code : Option ℕ → (ℕ → List ℕ) → ℕ → List ℕ
written_code domain word code =
    option_map_or (λ d. codes "s" ++ word d ++ codes " ") domain
    (cond (code == 0) (codes "0") (codes "1"))

-- what stands before a signal's number: `1` where it happens, else its code
abbrev pub written : Network → Signal → Option ℕ → List ℕ
written net signal None = codes "1"
written net signal (Some code) =
    written_code (domain_of net signal) (λ d. code_word net signal d code) code

-- the line of the signal of this number, which happens or has a code
abbrev pub signal_line : Network → ℕ → Signal → Option ℕ → List ℕ
signal_line net k signal code = line (written net signal code ++ decimal k)

-- the code of a signal at the start, if it has one
abbrev pub start_line : Network → ℕ × Signal → List ℕ
start_line net (k, signal) =
    option_map_or (λ code. signal_line net k signal (Some code)) (signal_code net [] signal) []

-- the codes at the start
abbrev pub start_text : Network → List ℕ
start_text net =
    line (codes "#0") ++ line (codes "$dumpvars")
    ++ flat_map (start_line net) (enumerate_from 0 (signals net))
    ++ line (codes "$end")

abbrev pub change_line : Network → Change → List ℕ
change_line net change =
    option_map_or (λ signal. signal_line net change.signal signal change.code)
    (slice_get (signals net) change.signal) []

-- the moment after so many entries, with what changes at it
abbrev pub moment_lines : Network → ℕ → List Change → List ℕ
moment_lines net moment changes =
    line (codes "#" ++ decimal moment) ++ flat_map (change_line net) changes

-- the moment after the entry at place p, where something changes or no entry follows
abbrev pub moment_text : Network → List Entry → ℕ → List ℕ
moment_text net journal p =
    let changes = changes_at net journal p in
    cond (length changes == 0 && not (p + 1 == length journal)) []
    (moment_lines net (p + 1) changes)

abbrev pub wave_text : Network → List Entry → List ℕ
wave_text net journal =
    head_text net ++ start_text net ++ flat_map (moment_text net journal) (upto (length journal))
