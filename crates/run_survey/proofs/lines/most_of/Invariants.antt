use Rattle.std.proofs.Common.{◌≡◌, drop, map, take}
use Rattle.run_survey.specs.SurveyLines.{most_taken}
use Rattle.run_survey.proofs.lines.most_of.Given as goal

-- those of the rows before this one
abbrev pub invariant-loop-k : goal.invariant-loop-k
invariant-loop-k l = l.tallies ≡ map most_taken (take l.k (drop l.first l.rows))
