use Rattle.std.proofs.Common.{◌≡◌, ◌+◌, ◌++◌, drop}
use Rattle.journals.specs.Journals.{inputs_of}
use Rattle.event_accounts.specs.InputLines.{input_line}
use Rattle.event_accounts.proofs.InputLines.{lines_from}
use Rattle.event_accounts.proofs.input_lines.push_machine.Given as goal

-- the lines of the inputs from this one on are left
abbrev pub invariant-loop-k : goal.invariant-loop-k
invariant-loop-k g l =
    l.into
    ++ lines_from (input_line (g.L.InputLine.line l.line) l.net) l.m l.k
    (drop l.k (inputs_of l.net l.m)) (drop (l.first + l.k) l.items)
    ≡ l.fn.into
    ++ lines_from (input_line (g.L.InputLine.line l.line) l.net) l.m 0 (inputs_of l.net l.m)
    (drop l.first l.items)
