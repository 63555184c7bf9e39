-- Surveys of the runs that are drawn from neighbouring seeds.
use Rattle.std.specs.Prelude.{◌≡◌, ◌↔◌, ℕ, ◌+◌, List, flat_map, length, slice_get, Option, Some, IfSome, IsTrue}
use Rattle.transition_table.specs.declared.machine.Machine.{Machine}
use Rattle.transition_table.specs.declared.network.Network.{Network}
use Rattle.transition_table.specs.declared.row.Row.{Row}
use Rattle.journals.specs.declared.entry.Entry.{Entry}
use Rattle.journals.specs.declared.entry.TraceItem.{TraceItem}
use Rattle.journals.specs.Legality.{Complete}
use Rattle.event_accounts.specs.Accounts.{buffers}
use Rattle.run_shuffle.specs.declared.order.Order.{Order}
use Rattle.run_shuffle.specs.Shuffles.{IsShuffled}
use Rattle.run_watch.specs.WatchLines.{IsShown}
use Rattle.run_watch.specs.declared.answer.Watched.TheVariants.{Found}
use Rattle.run_survey.specs.declared.figures.Figures.{Figures}
use Rattle.run_survey.specs.declared.told.Survey.{Survey}
use Rattle.run_survey.specs.Figures.{figures_of}
use Rattle.run_survey.specs.Surveys.{IsSurvey}
use Rattle.run_survey.specs.Watching.{IsSaid}

-- the figures of the run that is drawn from the seed, with what the monitor says of it, if one is
-- given
pub record AreFiguresOf (net : Network) (monitor : Option Network) (trace : List TraceItem)
    (order : Order) (limit seed : ℕ) (figures : Figures) : Type 0 where
  pub journal : List Entry
  pub shuffled : IsShuffled net trace seed order limit journal
  pub ends : IsTrue figures.complete ↔ Complete net trace journal
  pub are : figures ≡ figures_of net journal figures.complete figures.watched
  pub said : IsSaid net monitor journal figures.watched

-- of each of so many runs, from the seed on
pub record AreFiguresFrom (net : Network) (monitor : Option Network) (trace : List TraceItem)
    (order : Order) (limit seed runs : ℕ) (figures : List Figures) : Type 0 where
  pub many : length figures ≡ runs
  pub each : (k : ℕ) (one : Figures) → slice_get figures k ≡ Some one
      → AreFiguresOf net monitor trace order limit (seed + k) one

-- the survey of so many runs, from the seed on
pub record IsSurveyOf (net : Network) (monitor : Option Network) (trace : List TraceItem)
    (order : Order) (limit seed runs : ℕ) (s : Survey) : Type 0 where
  pub figures : List Figures
  pub drawn : AreFiguresFrom net monitor trace order limit seed runs figures
  pub told : IsSurvey seed figures s

-- the rows of the machines, one machine after the other
abbrev pub all_rows : Network → List Row
all_rows net = flat_map (λ (machine : Machine). machine.rows) net.machines

-- there is a number for each input of a machine, for each machine, and for each row of a machine;
-- and a complaint is an event of the monitor, if one is given
pub record IsShapedBy (net : Network) (monitor : Option Network) (s : Survey) : Type 0 where
  pub lost : length s.lost ≡ length (buffers net)
  pub unused : length s.unused ≡ length (buffers net)
  pub jammed : length s.jammed ≡ length net.machines
  pub taken : length s.taken ≡ length (all_rows net)
  pub shown : IfSome monitor (λ m. IfSome s.found (λ f. IsShown m (Found f.complaint)))
