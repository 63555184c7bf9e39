-- The lines that tell a survey.
use Rattle.std.specs.Prelude.{ℕ, cond, ◌==◌, nat_lt, min, List, [], ◌∷◌, ◌++◌, map, flat_map, count_by, length, take, drop, Option, Some, None, codes, decimal}
use Rattle.std.specs.List.{zip}
use Rattle.polis_base.specs.Lines.{line}
use Rattle.polis_base.specs.Pieces.{pieces}
use Rattle.transition_table.specs.declared.machine.Machine.{Machine}
use Rattle.transition_table.specs.declared.network.Network.{Network}
use Rattle.event_accounts.specs.InputLines.{input_lines}
use Rattle.table_use.specs.CoverageLines.{never_line}
use Rattle.table_use.specs.declared.tally.Tally.{Tally}
use Rattle.journal_text.specs.Texts.{event_item}
use Rattle.run_survey.specs.declared.told.FoundRuns.{FoundRuns}
use Rattle.run_survey.specs.declared.told.Kind.{Kind}
use Rattle.run_survey.specs.declared.told.Others.{Others}
use Rattle.run_survey.specs.declared.told.Spread.{Spread}
use Rattle.run_survey.specs.declared.told.Survey.{Survey}

-- `runs R complete C`
abbrev pub runs_line : Survey → List ℕ
runs_line s = line (codes "runs " ++ decimal s.runs ++ codes " complete " ++ decimal s.complete)

-- `kinds K`
abbrev pub kinds_line : List Kind → List ℕ
kinds_line kinds = line (codes "kinds " ++ decimal (length kinds))

-- how many lines a text of outputs has, which is one an emission
abbrev pub line_count : List ℕ → ℕ
line_count text = count_by (λ (c : ℕ). c == 10) text

-- each item with a space before it
abbrev pub spaced_item : List ℕ → List ℕ
spaced_item item = codes " " ++ item

-- the first 8 lines with a space before each, and ` ..` where there are more, or ` -` where there
-- is none
abbrev pub first_items : List ℕ → List ℕ
first_items text =
    cond (line_count text == 0) (codes " -")
    (flat_map spaced_item (take (min (line_count text) 8) (pieces 10 text))
    ++ cond (nat_lt 8 (line_count text)) (codes " ..") [])

-- `kind COUNT seed S outputs N : O`
abbrev pub kind_line : Kind → List ℕ
kind_line kind =
    line
    (codes "kind " ++ decimal kind.count ++ codes " seed " ++ decimal kind.seed
    ++ codes " outputs " ++ decimal (line_count kind.outputs) ++ codes " :"
    ++ first_items kind.outputs)

-- `others COUNT seed S`, where there are others
abbrev pub others_line : Option Others → List ℕ
others_line None = []
others_line (Some others) =
    line (codes "others " ++ decimal others.count ++ codes " seed " ++ decimal others.seed)

-- ` least A most B seed S runs C`
abbrev pub spread_text : Spread → List ℕ
spread_text s =
    codes " least " ++ decimal s.least ++ codes " most " ++ decimal s.most ++ codes " seed "
    ++ decimal s.seed ++ codes " runs " ++ decimal s.runs

-- `W M E least A most B seed S runs C` of a machine and an event with these names, where some run
-- has more than 0
abbrev pub named_line : List ℕ → List ℕ → List ℕ → Spread → List ℕ
named_line word machine event s =
    cond (s.most == 0) []
    (line (word ++ codes " " ++ machine ++ codes " " ++ event ++ spread_text s))

-- `jammed M least A most B seed S runs C`, where some run has the machine jammed
abbrev pub jammed_line : Machine × Spread → List ℕ
jammed_line (machine, s) =
    cond (s.most == 0) [] (line (codes "jammed " ++ machine.name ++ spread_text s))

-- a row with the most firings of a run that took it
abbrev pub most_taken : Spread → Tally
most_taken s = record { count = s.most; first = None }

-- `never M N : K K K` for each machine with rows that no run took
abbrev pub never_lines : List Machine → List Spread → List ℕ
never_lines [] rows = []
never_lines (machine ∷ machines) rows =
    never_line machine (map most_taken (take (length machine.rows) rows))
    ++ never_lines machines (drop (length machine.rows) rows)

-- the lines of what the inputs, the machines and the rows have
abbrev pub number_lines : Network → Survey → List ℕ
number_lines net s =
    input_lines (named_line (codes "lost")) net s.lost
    ++ input_lines (named_line (codes "unused")) net s.unused
    ++ flat_map jammed_line (zip net.machines s.jammed) ++ never_lines net.machines s.taken

-- `found C seed S : E`
abbrev pub found_line : Network → FoundRuns → List ℕ
found_line monitor found =
    line
    (codes "found " ++ decimal found.count ++ codes " seed " ++ decimal found.seed ++ codes " : "
    ++ event_item monitor (found.complaint.event, found.complaint.code))

-- `unfinished C seed S`
abbrev pub unfinished_line : Others → List ℕ
unfinished_line unfinished =
    line
    (codes "unfinished " ++ decimal unfinished.count ++ codes " seed " ++ decimal unfinished.seed)

-- the first of these that applies, or `held`
abbrev pub said_line : Network → Option FoundRuns → Option Others → List ℕ
said_line monitor (Some found) unfinished = found_line monitor found
said_line monitor None (Some unfinished) = unfinished_line unfinished
said_line monitor None None = line (codes "held")

-- such a line where there is a monitor
abbrev pub monitor_line : Option Network → Option FoundRuns → Option Others → List ℕ
monitor_line None found unfinished = []
monitor_line (Some monitor) found unfinished = said_line monitor found unfinished

-- the whole text
abbrev pub survey_lines : Network → Option Network → Survey → List ℕ
survey_lines net monitor s =
    runs_line s ++ kinds_line s.kinds.items ++ flat_map kind_line s.kinds.items
    ++ others_line s.others ++ number_lines net s ++ monitor_line monitor s.found s.unfinished
