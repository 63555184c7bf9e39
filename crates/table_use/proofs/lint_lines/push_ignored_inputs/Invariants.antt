use Rattle.std.proofs.Common.{◌≡◌, ◌++◌, flat_map}
use Rattle.std.specs.List.{zip}
use Rattle.table_use.specs.LintLines.{ignored_input}
use Rattle.table_use.proofs.Written.{paired_from}
use Rattle.table_use.proofs.lint_lines.push_ignored_inputs.Given as goal

-- what is written, with the lines of the inputs that are left, is the whole
abbrev pub invariant-loop-i : goal.invariant-loop-i
invariant-loop-i l =
    l.into ++ paired_from (ignored_input l.net l.machine) l.i l.machine.inputs l.inputs
    ≡ l.fn.into ++ flat_map (ignored_input l.net l.machine) (zip l.machine.inputs l.inputs)
