-- What `survey` makes.
use Rattle.std.specs.Prelude.{◌≡◌, ◌⊎◌, ℕ, Bool, true, false, List, Option, Some, None, ⊤}
use Rattle.polis_base.specs.Host.{Files}
use Rattle.transition_table.specs.declared.network.Network.{Network}
use Rattle.journals.specs.declared.entry.TraceItem.{TraceItem}
use Rattle.journals.specs.Journals.{IsTrace}
use Rattle.run_survey.specs.declared.told.Survey.{Survey}
use Rattle.run_survey.specs.Runs.{IsSurveyOf}
use Rattle.run_survey.specs.SurveyLines.{survey_lines}
use Rattle.run_survey.specs.Watching.{ending_of}
use Rattle.run_survey.specs.declared.ending.Ending.{Ending}
use Rattle.run_survey.specs.declared.ending.Ending.TheVariants as endings
use Rattle.polis_words.specs.declared.cause.Cause.{Cause}
use Rattle.polis_words.specs.declared.status.Status.{Status}
use Rattle.polis_words.specs.declared.status.Status.TheVariants.{Done, Limit, Found}
use Rattle.polis_words.specs.Survey.{SurveyWords}
use Rattle.output_files.specs.declared.product.End.{End}
use Rattle.output_files.specs.declared.product.End.TheVariants as ends
use Rattle.output_files.specs.declared.product.Product.{Product}
use Rattle.output_files.specs.Products.{shows_and_ends}
use Rattle.input_files.specs.Failures.{explains_nothing}
use Rattle.input_files.specs.Inputs.{HoldsNet, HoldsTrace, InputsFail}
use Rattle.commands.specs.Meanings.{Meaning, finds_nothing, ends_done}
use Rattle.commands.specs.Monitors.{HoldsMonitor, MonitorFails}
use Rattle.commands.specs.Shuffle.{order_of}

-- the monitor that is named, where one is, is held
abbrev pub HoldsMonitorOf : Option (List ℕ) → Files → Network → Option Network → Type 0
HoldsMonitorOf None files net None = ⊤
HoldsMonitorOf None files net (Some monitor) = ⊥
HoldsMonitorOf (Some name) files net None = ⊥
HoldsMonitorOf (Some name) files net (Some monitor) = HoldsMonitor files name net monitor

-- what the files of a survey hold
pub record HoldsSurvey (asked : SurveyWords) (files : Files) (net : Network)
    (trace : List TraceItem) (monitor : Option Network) : Type 0 where
  pub holds_net : HoldsNet files asked.net net
  pub holds_trace : HoldsTrace files asked.trace net trace
  pub holds_monitor : HoldsMonitorOf asked.monitor files net monitor

-- these are the runs that are asked for, and this is what is told of them
abbrev pub IsSurveyed : SurveyWords → Network → List TraceItem → Option Network → Survey → Type 0
IsSurveyed asked net trace monitor survey =
    IsSurveyOf net monitor trace (order_of asked.order) asked.limit asked.seed asked.runs survey

-- how a call ends with what a monitor says of all runs; without one it says nothing against any
abbrev pub end_surveyed : Ending → End
end_surveyed endings.Held = ends.Done
end_surveyed endings.Unfinished = ends.Limit
end_surveyed endings.Found = ends.Found

-- the product saves nothing, and shows the lines of the survey
abbrev pub survey_product : Network → Option Network → Survey → Product
survey_product net monitor survey =
    shows_and_ends (survey_lines net monitor survey) (end_surveyed (ending_of survey))

-- The files hold a network and a trace that are accepted, and the monitor where one is named; this
-- is the survey of the runs that are asked for, and the product is that of it. Of how many workers
-- draw them nothing is said.
pub record MakesSurvey (asked : SurveyWords) (files : Files) (product : Product) : Type 0 where
  pub net : Network
  pub trace : List TraceItem
  pub monitor : Option Network
  pub holds : HoldsSurvey asked files net trace monitor
  pub fits : IsTrace net trace
  pub survey : Survey
  pub surveyed : IsSurveyed asked net trace monitor survey
  pub made : product ≡ survey_product net monitor survey

-- each file is held, within its limit, and accepted
abbrev pub AcceptsSurvey : SurveyWords → Files → Type 0
AcceptsSurvey asked files = (net : Network) × (trace : List TraceItem) × (monitor : Option Network)
    × HoldsSurvey asked files net trace monitor

-- the monitor is named so and its file fails, the network and the trace being accepted
pub record MonitorOfSurveyFails (asked : SurveyWords) (files : Files) (name : List ℕ)
    (cause : Cause) : Type 0 where
  pub named : asked.monitor ≡ Some name
  pub net : Network
  pub trace : List TraceItem
  pub holds_net : HoldsNet files asked.net net
  pub holds_trace : HoldsTrace files asked.trace net trace
  pub fails : MonitorFails files net name cause

-- why a file of a survey fails: the network or the trace does, or both are accepted and the monitor
-- does
abbrev pub FailsSurvey : SurveyWords → Files → List ℕ → Cause → Type 0
FailsSurvey asked files name cause =
    InputsFail files asked.net asked.trace name cause ⊎ MonitorOfSurveyFails asked files name cause

-- the statuses of a survey, by whether a monitor is named
abbrev pub ends_surveyed : Option (List ℕ) → Status → Bool
ends_surveyed None status = ends_done status
ends_surveyed (Some name) Done = true
ends_surveyed (Some name) Limit = true
ends_surveyed (Some name) Found = true
ends_surveyed (Some name) other = false

abbrev pub survey_meaning : SurveyWords → Meaning
survey_meaning asked = record {
  makes = MakesSurvey asked;
  accepts = AcceptsSurvey asked;
  finds = finds_nothing;
  fails = FailsSurvey asked;
  explains = explains_nothing;
  ends = ends_surveyed asked.monitor;
  reads = true;
}
