use Rattle.std.proofs.Common.{◌≡◌, ◌++◌, flat_map}
use Rattle.std.specs.List.{zip}
use Rattle.table_use.proofs.Written.{paired_from}
use Rattle.run_survey.specs.SurveyLines.{jammed_line}
use Rattle.run_survey.proofs.lines.push_jammed.Given as goal

-- what is written, with the lines of the machines that are left, is the whole
abbrev pub invariant-loop-m : goal.invariant-loop-m
invariant-loop-m l =
    l.into ++ paired_from jammed_line l.m l.net.machines l.spreads
    ≡ l.fn.into ++ flat_map jammed_line (zip l.net.machines l.spreads)
