use Rattle.std.proofs.Common.{◌≡◌, ◌++◌, drop, flat_map, length, take}
use Rattle.run_survey.specs.SurveyLines.{never_lines}
use Rattle.run_survey.proofs.NeverLines.{rows_in}
use Rattle.run_survey.proofs.lines.push_never_taken.Given as goal

-- what is written, with the lines of the machines that are left, is the whole
abbrev pub invariant-loop-m : goal.invariant-loop-m
invariant-loop-m l = record {
  place : l.first ≡ length (flat_map rows_in (take l.m l.net.machines));
  lines : l.into ++ never_lines (drop l.m l.net.machines) (drop l.first l.rows)
      ≡ l.fn.into ++ never_lines l.net.machines l.rows;
}
