use Rattle.std.proofs.Common.{List, ◌++◌, ◌∷◌, [], ap, ◌∙◌}
use Rattle.table_use.specs.declared.tally.Tally.{Tally}
use Rattle.run_survey.specs.SurveyLines.{most_taken}
use Rattle.run_survey.proofs.NeverLines.{most_more}
use Rattle.std.proofs.Common.{sym}
use Rattle.run_survey.proofs.lines.most_of.Goals as goal

pub loop-k-preserved : goal.loop-k-preserved
loop-k-preserved c =
    c.in_ok-push.ensures.ok
    ∙ ap (λ (l : List Tally). l ++ most_taken c.get.result.now ∷ []) c.loop-k.invariant
    ∙ sym (most_more c.args.rows.now c.args.first c.loop-k.k c.get.result.now c.get.ensures)
