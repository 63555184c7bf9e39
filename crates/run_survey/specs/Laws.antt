-- Laws of surveys.
use Rattle.std.specs.Prelude.{◌≡◌, ℕ, List, Option, IfSome}
use Rattle.transition_table.specs.Transitions.{AreDeterministic}
use Rattle.transition_table.specs.declared.network.Network.{Network}
use Rattle.journals.specs.Journals.{IsTrace}
use Rattle.journals.specs.declared.entry.TraceItem.{TraceItem}
use Rattle.run_shuffle.specs.declared.order.Order.{Order}
use Rattle.run_watch.specs.Monitors.{IsMonitor}
use Rattle.run_survey.specs.declared.figures.Figures.{Figures}
use Rattle.run_survey.specs.declared.told.Survey.{Survey}
use Rattle.run_survey.specs.Runs.{AreFiguresFrom, IsSurveyOf}
use Rattle.run_survey.specs.SurveyLines.{survey_lines}

-- of a deterministic network, and by a deterministic monitor if one is given, the runs of
-- neighbouring seeds have one list of figures at most
abbrev pub OneFigures : Type 0
OneFigures =
    (net : Network) (monitor : Option Network) (trace : List TraceItem) (order : Order)
    (limit seed runs : ℕ)
    (xs ys : List Figures)
    → AreDeterministic net
    → IfSome monitor (λ m. AreDeterministic m × IsMonitor net m)
    → IsTrace net trace
    → AreFiguresFrom net monitor trace order limit seed runs xs
    → AreFiguresFrom net monitor trace order limit seed runs ys
    → xs ≡ ys

-- and so one text that tells their survey
abbrev pub OneText : Type 0
OneText =
    (net : Network) (monitor : Option Network) (trace : List TraceItem) (order : Order)
    (limit seed runs : ℕ)
    (s t : Survey)
    → AreDeterministic net
    → IfSome monitor (λ m. AreDeterministic m × IsMonitor net m)
    → IsTrace net trace
    → IsSurveyOf net monitor trace order limit seed runs s
    → IsSurveyOf net monitor trace order limit seed runs t
    → survey_lines net monitor s ≡ survey_lines net monitor t
