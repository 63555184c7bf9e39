use Rattle.std.proofs.Common.{◌≡◌, ◌++◌, flat_map, take}
use Rattle.run_survey.specs.SurveyLines.{kind_line}
use Rattle.run_survey.proofs.lines.push_kinds.Given as goal

-- the lines of the kinds before this one
abbrev pub invariant-loop-kind : goal.invariant-loop-kind
invariant-loop-kind l = l.into ≡ l.fn.into ++ flat_map kind_line (take l.kind-index l.kinds)
