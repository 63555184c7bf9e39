-- What a survey loads, and the product of what was loaded.
use Rattle.std.specs.Prelude.{◌≡◌, ℕ, List, Option, Some, IfSome, is_some}
use Rattle.polis_base.specs.Host.{Files}
use Rattle.transition_table.specs.Transitions.{AreDeterministic}
use Rattle.transition_table.specs.declared.network.Network.{Network}
use Rattle.journals.specs.Journals.{IsTrace}
use Rattle.run_survey.specs.declared.told.Survey.{Survey}
use Rattle.run_survey.specs.declared.watcher.Watcher.{Ghosts}
use Rattle.run_watch.specs.Monitors.{IsMonitor}
use Rattle.polis_words.specs.declared.cause.Cause.{Cause}
use Rattle.polis_words.specs.Survey.{SurveyWords}
use Rattle.output_files.specs.declared.product.Product.{Product}
use Rattle.polis_cli.specs.declared.survey_inputs.SurveyInputs.{SurveyInputs}
use Rattle.commands.specs.Monitors.{MonitorFails}
use Rattle.polis_cli.specs.Survey.{IsSurveyed, survey_product}

-- the monitor that is named so fails
abbrev pub FailsMonitorOf : Option (List ℕ) → Network → Files → List ℕ → Cause → Type 0
FailsMonitorOf named net files name cause =
    (named ≡ Some name) × MonitorFails files net name cause

-- the monitor is one of the network, and its machines are deterministic
abbrev pub IsSureMonitor : Network → Network → Type 0
IsSureMonitor net monitor = AreDeterministic monitor × IsMonitor net monitor

-- what was loaded for a survey: the trace fits the network, whose machines are deterministic, and
-- there is such a monitor of it where one is named, and nowhere else
pub record IsLoadedSurvey (asked : SurveyWords) (loaded : SurveyInputs) : Type 0 where
  pub trace : IsTrace loaded.inputs.net loaded.inputs.trace
  pub deterministic : AreDeterministic loaded.inputs.net
  pub monitor : IfSome loaded.monitor (IsSureMonitor loaded.inputs.net)
  pub named : is_some loaded.monitor ≡ is_some asked.monitor

-- the watcher is of the monitor, where there is one, and can be asked of runs of the network
pub record IsWatchedBy {S : Type 0} (watcher : Ghosts S) (w : S) (loaded : SurveyInputs) : Type 0
  where
    pub monitor : watcher.monitor w ≡ loaded.monitor
    pub watches : watcher.watches w loaded.inputs.net

-- the product is that of a survey of what was loaded
pub record IsSurveyProduct (asked : SurveyWords) (loaded : SurveyInputs) (product : Product) :
    Type 0 where
  pub survey : Survey
  pub surveyed : IsSurveyed asked loaded.inputs.net loaded.inputs.trace loaded.monitor survey
  pub made : product ≡ survey_product loaded.inputs.net loaded.monitor survey
