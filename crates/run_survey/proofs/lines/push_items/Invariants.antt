use Rattle.std.proofs.Common.{◌≡◌, ◌++◌, drop, flat_map, take}
use Rattle.polis_base.specs.Pieces.{pieces}
use Rattle.run_survey.specs.SurveyLines.{spaced_item}
use Rattle.run_survey.proofs.lines.push_items.Given as goal

-- the lines before this one are written, the others are left
abbrev pub invariant-loop : goal.invariant-loop
invariant-loop l = record {
  left : pieces 10 l.rest ≡ drop l.counter (pieces 10 l.text);
  written : l.into ≡ l.fn.into ++ flat_map spaced_item (take l.counter (pieces 10 l.text));
}
