use Rattle.std.proofs.Common.{◌≡◌, ◌++◌, flat_map}
use Rattle.std.specs.List.{zip}
use Rattle.table_use.specs.LintLines.{never_output}
use Rattle.table_use.proofs.Written.{paired_from}
use Rattle.table_use.proofs.lint_lines.push_never_outputs.Given as goal

-- what is written, with the lines of the outputs that are left, is the whole
abbrev pub invariant-loop-y : goal.invariant-loop-y
invariant-loop-y l =
    l.into ++ paired_from (never_output l.net l.machine) l.y l.machine.outputs l.outputs
    ≡ l.fn.into ++ flat_map (never_output l.net l.machine) (zip l.machine.outputs l.outputs)
