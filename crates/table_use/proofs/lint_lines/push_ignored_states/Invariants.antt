use Rattle.std.proofs.Common.{◌≡◌, ◌++◌, flat_map}
use Rattle.std.specs.List.{zip}
use Rattle.table_use.specs.LintLines.{ignored_state}
use Rattle.table_use.proofs.Written.{paired_from}
use Rattle.table_use.proofs.lint_lines.push_ignored_states.Given as goal

-- what is written, with the lines of the state variables that are left, is the whole
abbrev pub invariant-loop-x : goal.invariant-loop-x
invariant-loop-x l =
    l.into ++ paired_from (ignored_state l.machine) l.x l.machine.states l.states
    ≡ l.fn.into ++ flat_map (ignored_state l.machine) (zip l.machine.states l.states)
