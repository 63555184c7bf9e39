-- What a survey tells that two of neighbouring seeds are joined to.
use Rattle.std.specs.Prelude.{ℕ, ◌+◌, List, ◌++◌, length, Option}
use Rattle.transition_table.specs.declared.network.Network.{Network}
use Rattle.journals.specs.declared.entry.TraceItem.{TraceItem}
use Rattle.run_shuffle.specs.declared.order.Order.{Order}
use Rattle.run_survey.specs.declared.figures.Figures.{Figures}
use Rattle.run_survey.specs.declared.told.Survey.{Survey}
use Rattle.run_survey.specs.Runs.{IsShapedBy, IsSurveyOf}
use Rattle.run_survey.specs.Surveys.{IsSurvey}

-- whichever runs the one and the next are of, it is of those of the one and then of the next
abbrev pub TellsBoth : Survey → Survey → Survey → Type 0
TellsBoth one next all =
    (first : ℕ) (xs ys : List Figures)
    → IsSurvey first xs one
    → IsSurvey (first + length xs) ys next
    → IsSurvey first (xs ++ ys) all

-- where they are of the runs that are drawn from neighbouring ranges of seeds, it is of those of
-- both ranges together
abbrev pub CoversBoth : Survey → Survey → Survey → Type 0
CoversBoth one next all =
    (net : Network) (monitor : Option Network) (trace : List TraceItem) (order : Order)
    (limit seed runs more : ℕ)
    → IsSurveyOf net monitor trace order limit seed runs one
    → IsSurveyOf net monitor trace order limit (seed + runs) more next
    → IsSurveyOf net monitor trace order limit seed (runs + more) all

-- where both have the shape of a network, with a monitor or none, so has it
abbrev pub KeepsShape : Survey → Survey → Survey → Type 0
KeepsShape one next all =
    (net : Network) (monitor : Option Network)
    → IsShapedBy net monitor one
    → IsShapedBy net monitor next
    → IsShapedBy net monitor all
