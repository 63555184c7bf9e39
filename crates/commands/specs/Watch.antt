-- What `watch` makes of a journal and a monitor.
use Rattle.std.specs.Prelude.{◌≡◌, ◌⊎◌, ℕ, Bool, true, false, List, Option}
use Rattle.polis_base.specs.Host.{Files}
use Rattle.transition_table.specs.declared.network.Network.{Network}
use Rattle.journals.specs.declared.entry.Entry.{Entry}
use Rattle.journals.specs.declared.entry.TraceItem.{TraceItem}
use Rattle.run_watch.specs.declared.answer.Watched.{Watched}
use Rattle.run_watch.specs.declared.answer.Watched.TheVariants as answers
use Rattle.run_watch.specs.Watches.{IsAnswer}
use Rattle.run_watch.specs.WatchLines.{watched_line}
use Rattle.polis_words.specs.declared.cause.Cause.{Cause}
use Rattle.polis_words.specs.declared.status.Status.{Status}
use Rattle.polis_words.specs.declared.status.Status.TheVariants.{Done, Limit, Illegal, Found}
use Rattle.polis_words.specs.Watch.{WatchWords}
use Rattle.output_files.specs.declared.product.End.{End}
use Rattle.output_files.specs.declared.product.End.TheVariants as ends
use Rattle.output_files.specs.declared.product.Product.{Product}
use Rattle.output_files.specs.Products.{shows_and_ends}
use Rattle.input_files.specs.Failures.{explains_nothing}
use Rattle.input_files.specs.JournalFiles.{LegalAndRising}
use Rattle.commands.specs.Meanings.{Meaning, finds_illegal}
use Rattle.commands.specs.Monitors.{HoldsMonitor, MonitorFails}
use Rattle.commands.specs.Judging.{HoldsReplay, IsJudged, AcceptsReplay, FailsReplay, IsIllegalReplay}

-- how a call ends with what a monitor says
abbrev pub end_watched : Watched → End
end_watched answers.Held = ends.Done
end_watched answers.Unfinished = ends.Limit
end_watched (answers.Found complaint) = ends.Found

-- the product saves nothing, and shows what the monitor says
abbrev pub watch_product : Network → Watched → Product
watch_product monitor said = shows_and_ends (watched_line monitor said) (end_watched said)

-- the files hold a legal journal and a monitor of its network, this is what the monitor says of the
-- journal, and the product is that of it
pub record MakesWatch (watch : WatchWords) (files : Files) (product : Product) : Type 0 where
  pub net : Network
  pub trace : List TraceItem
  pub journal : List Entry
  pub complete : Bool
  pub judged : IsJudged watch.replay files net trace journal complete
  pub monitor : Network
  pub monitors : HoldsMonitor files watch.monitor net monitor
  pub said : Watched
  pub answers : IsAnswer net monitor journal said
  pub made : product ≡ watch_product monitor said

-- The files of the replay are accepted; and where their journal is legal, with rising stamps where
-- it has any, a monitor of their network is held, within its limit, and accepted.
pub record AcceptsWatch (watch : WatchWords) (files : Files) : Type 0 where
  pub accepted : AcceptsReplay watch.replay files
  pub monitored : (net : Network) (trace : List TraceItem) (journal : List Entry)
      (stamps : Option (List ℕ)) → HoldsReplay watch.replay files net trace journal stamps
      → LegalAndRising net trace journal stamps
      → (monitor : Network) × HoldsMonitor files watch.monitor net monitor

-- the journal is legal, and the monitor's file fails
pub record FailsMonitor (watch : WatchWords) (files : Files) (name : List ℕ) (cause : Cause) :
    Type 0 where
  pub named : name ≡ watch.monitor
  pub net : Network
  pub trace : List TraceItem
  pub journal : List Entry
  pub complete : Bool
  pub judged : IsJudged watch.replay files net trace journal complete
  pub fails : MonitorFails files net watch.monitor cause

-- why a file of a watch fails: one of the replay does, or the monitor's does
abbrev pub FailsWatch : WatchWords → Files → List ℕ → Cause → Type 0
FailsWatch watch files name cause =
    FailsReplay watch.replay files name cause ⊎ FailsMonitor watch files name cause

-- the statuses of a command that watches a journal
abbrev pub ends_watched : Status → Bool
ends_watched Done = true
ends_watched Limit = true
ends_watched Illegal = true
ends_watched Found = true
ends_watched other = false

-- it judges the journal as `replay` does
abbrev pub watch_meaning : WatchWords → Meaning
watch_meaning watch = record {
  makes = MakesWatch watch;
  accepts = AcceptsWatch watch;
  finds = finds_illegal (IsIllegalReplay watch.replay);
  fails = FailsWatch watch;
  explains = explains_nothing;
  ends = ends_watched;
  reads = true;
}
