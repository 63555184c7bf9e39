-- What `watch` means.
use Rattle.std.proofs.Common.{◌≡◌, inl, inr, ℕ, Bool, List, Option, refl, subst, ap, IsTrue}
use Rattle.polis_base.specs.Host.{Files, WhereTold}
use Rattle.transition_table.specs.declared.network.Network.{Network}
use Rattle.journals.specs.declared.entry.Entry.{Entry}
use Rattle.journals.specs.declared.entry.TraceItem.{TraceItem}
use Rattle.run_watch.specs.declared.answer.Watched.{Watched}
use Rattle.run_watch.specs.declared.answer.Watched.TheVariants as answers
use Rattle.polis_words.specs.declared.cause.Cause.{Cause}
use Rattle.polis_words.specs.declared.cause.Failure.{Failure}
use Rattle.polis_words.specs.declared.cause.Failure.TheVariants as failures
use Rattle.polis_words.specs.declared.status.Status.{Status}
use Rattle.polis_words.specs.declared.status.Status.TheVariants.{Refused}
use Rattle.polis_words.specs.Lines.{cause_status}
use Rattle.polis_words.specs.Watch.{WatchWords}
use Rattle.output_files.specs.declared.product.Product.{Product}
use Rattle.output_files.specs.Ends.{end_status}
use Rattle.input_files.specs.Details.{explains_replay}
use Rattle.input_files.specs.Failures.{is_finding, explains_nothing, FileFails}
use Rattle.input_files.specs.declared.load.Detail.TheVariants as details
use Rattle.polis_base.proofs.WhereTold.{told_from, told_both}
use Rattle.commands.specs.Meanings.{finds_illegal}
use Rattle.commands.specs.Judging.{IsJudged, FailsReplay, IsIllegalReplay}
use Rattle.commands.specs.Monitors.{HoldsMonitor, MonitorFails}
use Rattle.commands.specs.Watch.{MakesWatch, AcceptsWatch, FailsWatch, end_watched, ends_watched, watch_product, watch_meaning}
use Rattle.commands.specs.inner.Lawful.{IsLawful}
use Rattle.commands.specs.Made.{IsMadeProduct, IsMadeFailure, JudgingExplained}
use Rattle.commands.specs.inner.Watch.{IsWatchProduct}
use Rattle.commands.proofs.IsExplained.{judging_explained}
use Rattle.commands.proofs.IsMade.{product_made, none_told}
use Rattle.commands.proofs.MonitorFails.{monitor_refused, monitor_unfound}
use Rattle.commands.proofs.OneNet.{one_held_net}
use Rattle.commands.proofs.JournalMeaning.{illegal_is, judged_legal, judging_lawful}
use Rattle.commands.specs.JournalProducts.{replay_product}

-- ---- where a file fails
watch_refused : (files : Files) (watch : WatchWords) (name : List ℕ) (cause : Cause)
    → cause_status cause ≡ Refused → FailsWatch watch files name cause → ¬ AcceptsWatch watch files
watch_refused files watch name cause s (inl h) all =
    (judging_lawful details.Cause watch.replay replay_product).refused files name cause h s all.accepted
watch_refused files watch name cause s (inr h) all =
    let held = all.monitored h.net h.trace h.journal h.judged.stamps h.judged.holds
    h.judged.lawful in
    monitor_refused files watch.monitor h.net held.0 cause s h.fails held.1

watch_found : (files : Files) (watch : WatchWords) (name : List ℕ) (cause : Cause)
    → FailsWatch watch files name cause → IsTrue (is_finding (cause_status cause))
    → finds_illegal (IsIllegalReplay watch.replay) (cause_status cause) files
watch_found files watch name cause (inl h) f =
    (judging_lawful details.Cause watch.replay replay_product).found files name cause h f
watch_found files watch name cause (inr h) f =
    absurd (monitor_unfound files watch.monitor h.net cause f h.fails)

-- ---- what is accepted
made_accepts : (files : Files) (watch : WatchWords) (product : Product)
    → MakesWatch watch files product → AcceptsWatch watch files
made_accepts files watch product m = record {
  accepted = (m.net, m.trace, m.journal, m.judged.stamps, m.judged.holds);
  monitored = λ net trace journal stamps holds lawful. (
    m.monitor,
    subst (λ (n : Network). HoldsMonitor files watch.monitor n m.monitor)
        (one_held_net files files watch.replay.net watch.replay.net m.net net refl
        m.judged.holds.holds_net holds.holds_net) m.monitors,
  );
}

-- no monitor is asked for where the journal isn't legal
illegal_accepts : (files : Files) (watch : WatchWords) (status : Status)
    → finds_illegal (IsIllegalReplay watch.replay) status files → AcceptsWatch watch files
illegal_accepts files watch status found =
    let illegal = (illegal_is (IsIllegalReplay watch.replay) files status found).1 in
    record {
      accepted = illegal.accepted;
      monitored = λ net trace journal stamps holds lawful.
          absurd (illegal.unlawful net trace journal stamps holds lawful);
    }

pub watch_lawful : (watch : WatchWords) → IsLawful (watch_meaning watch)
watch_lawful watch = record {
  made_accepts = λ files product m. made_accepts files watch product m;
  made_finds = λ files product status m.
      judged_legal files watch.replay m.net m.trace m.journal m.complete status m.judged;
  refused = λ files name cause h s. watch_refused files watch name cause s h;
  found = λ files name cause h f. watch_found files watch name cause h f;
  found_accepts = λ files status found. illegal_accepts files watch status found;
  found_ends = λ files status found.
      ap ends_watched (illegal_is (IsIllegalReplay watch.replay) files status found).0;
  found_once = (judging_lawful details.Cause watch.replay replay_product).found_once;
}

-- ---- what is made
-- each answer has its status
watch_ends : (said : Watched) → IsTrue (ends_watched (end_status (end_watched said)))
watch_ends answers.Held = refl
watch_ends answers.Unfinished = refl
watch_ends (answers.Found complaint) = refl

-- the product of what a monitor says
pub watch_made : (o : Option Files) (watch : WatchWords) (net : Network) (trace : List TraceItem)
    (journal : List Entry) (complete : Bool) (monitor : Network) (product : Product)
    → WhereTold o (λ files. IsJudged watch.replay files net trace journal complete)
    → WhereTold o (λ files. HoldsMonitor files watch.monitor net monitor)
    → IsWatchProduct net monitor journal product → IsMadeProduct (watch_meaning watch) o product
watch_made o watch net trace journal complete monitor product judged held p =
    product_made (watch_meaning watch) o product (watch_product monitor p.said) p.made tt
    (watch_ends p.said)
    (told_both o (λ files. IsJudged watch.replay files net trace journal complete)
    (λ files. HoldsMonitor files watch.monitor net monitor) _
    (λ files h k. record {
      net = net;
      trace = trace;
      journal = journal;
      complete = complete;
      judged = h;
      monitor = monitor;
      monitors = k;
      said = p.said;
      answers = p.answers;
      made = p.made;
    }) judged held)

-- a file of the replay fails, or the journal isn't legal
pub replay_fails : (o : Option Files) (watch : WatchWords) (failure : Failure)
    → JudgingExplained o (FailsReplay watch.replay) (explains_replay details.Cause watch.replay)
    failure
    → IsMadeFailure (watch_meaning watch) o failure
replay_fails o watch failure h =
    judging_explained (watch_meaning watch) o failure refl refl (widened failure h)
  where
    widened : (failure : Failure)
        → JudgingExplained o (FailsReplay watch.replay)
        (explains_replay details.Cause watch.replay) failure
        → JudgingExplained o (FailsWatch watch) explains_nothing failure
    widened failures.NoMemory h = tt
    widened (failures.File name cause more) ((fails, status), explains) = (
      (
        told_from o (λ files. FailsReplay watch.replay files name.now cause) _
            (λ files k. inl k) fails,
        status,
      ),
      explains,
    )

-- the monitor's file fails, the journal being legal
monitor_told : (o : Option Files) (watch : WatchWords) (net : Network) (trace : List TraceItem)
    (journal : List Entry) (complete : Bool) (name : List ℕ) (cause : Cause)
    → name ≡ watch.monitor
    → WhereTold o (λ files. IsJudged watch.replay files net trace journal complete)
    → WhereTold o (λ files. MonitorFails files net watch.monitor cause)
    → WhereTold o (λ files. FailsWatch watch files name cause)
monitor_told o watch net trace journal complete name cause same judged fails =
    told_both o (λ files. IsJudged watch.replay files net trace journal complete)
    (λ files. MonitorFails files net watch.monitor cause) _
    (λ files h f. inr (record {
      named = same;
      net = net;
      trace = trace;
      journal = journal;
      complete = complete;
      judged = h;
      fails = f;
    })) judged fails

pub monitor_fails : (o : Option Files) (watch : WatchWords) (net : Network)
    (trace : List TraceItem) (journal : List Entry) (complete : Bool) (failure : Failure)
    → WhereTold o (λ files. IsJudged watch.replay files net trace journal complete)
    → FileFails watch.monitor o (λ files. MonitorFails files net watch.monitor) failure
    → IsMadeFailure (watch_meaning watch) o failure
monitor_fails o watch net trace journal complete failures.NoMemory judged h = tt
monitor_fails o watch net trace journal complete (failures.File name cause more) judged
    (h, none) = (
      monitor_told o watch net trace journal complete name.now cause h.0 judged h.1,
      inr h.2,
      none_told (watch_meaning watch) o name.now cause more (λ told name cause. refl) none,
    )
