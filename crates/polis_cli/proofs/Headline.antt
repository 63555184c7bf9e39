-- What a run gives, and a drawn one, that ended with Done or Limit.
use Rattle.std.proofs.Common.{◌≡◌, inl, inr, ℕ, Bool, true, false, List, ◌++◌, Option, Some, None, refl, sym, ◌∙◌, ap, subst, codes}
use Rattle.polis_base.specs.Host.{Files, bytes_at, Changes}
use Rattle.transition_table.specs.declared.network.Network.{Network}
use Rattle.journals.specs.declared.entry.Entry.{Entry}
use Rattle.journals.specs.declared.entry.TraceItem.{TraceItem}
use Rattle.journal_text.specs.Texts.{output_text}
use Rattle.polis_words.specs.declared.requests.Request.{Request}
use Rattle.polis_words.specs.declared.requests.Request.TheVariants.{Run, Shuffle}
use Rattle.polis_words.specs.declared.status.Status.{Status}
use Rattle.polis_words.specs.Run.{RunWords, AsksRun}
use Rattle.polis_words.specs.Shuffle.{ShuffleWords, AsksShuffle}
use Rattle.polis_words.specs.Texts.{drawn_text}
use Rattle.polis_words.proofs.OneRequest.{one_request}
use Rattle.output_files.specs.declared.product.Product.{Product}
use Rattle.commands.specs.declared.run_result.RunResult.{RunResult}
use Rattle.polis_cli.specs.Commands.{meaning}
use Rattle.output_files.specs.Ends.{end_status}
use Rattle.polis_cli.specs.Headline.{Headline, DrawnHeadline, RunsGiveHeadline, DrawsGiveHeadline, OfTexts, SavesJournal, IsHeld, IsSaved, SavesListing, Ends, CountsNoFault}
use Rattle.polis_cli.specs.Promise.{Outside}
use Rattle.commands.specs.Run.{IsWithin, MakesRun, RunsTasks, Tasks, Compiled, Given, end_of, run_product, run_text, saved_journal}
use Rattle.commands.specs.Shuffle.{MakesShuffle, shuffle_product}
use Rattle.output_files.specs.Saves.{AreHeld, IsOther}
use Rattle.polis_cli.specs.Top.{MadeAndWritten}
use Rattle.polis_base.proofs.WhereTold.{changes_some, changes_from}

-- how a run ends
ends_at : (status : Status) (limit : ℕ) (net : Network) (trace : List TraceItem)
    (journal : List Entry) (complete : Bool) → IsWithin limit net trace journal complete
    → status ≡ end_status (end_of complete) → Ends status limit net trace journal complete
ends_at status limit net trace journal true r s =
    subst (λ (t : Status). Ends t limit net trace journal true) (sym s) (refl, r.ends.0 refl)
ends_at status limit net trace journal false r s =
    subst (λ (t : Status). Ends t limit net trace journal false) (sym s)
    (refl, r.limited refl, λ whole. let h = r.ends.1 whole in cc)

-- what is promised of a journal, and of its outputs
saves_journal : (status : Status) (stem : List ℕ) (limit : ℕ) (net : Network)
    (trace : List TraceItem) (journal : List Entry) (complete : Bool) (now : Files)
    → IsWithin limit net trace journal complete → status ≡ end_status (end_of complete)
    → IsHeld now (stem ++ codes ".out") (output_text net journal)
    → IsHeld now (stem ++ codes ".jnl") (saved_journal net journal complete)
    → SavesJournal stem limit net trace journal complete status now
saves_journal status stem limit net trace journal complete now r s out jnl = record {
  legal = (jnl, r.legal, r.within);
  ends = ends_at status limit net trace journal complete r s;
  outputs = out;
}

-- the texts of the files before a run, with what it gives of them
abbrev Gives : RunWords → Status → Files → Files → Outside → Outside → Type 0
Gives run status before now old new = OfTexts before run.net run.trace
    (λ text trace_text. Headline run text trace_text status before now old new)

abbrev GivesDrawn : ShuffleWords → Status → Files → Files → Outside → Outside → Type 0
GivesDrawn shuffle status before now old new = OfTexts before shuffle.net shuffle.trace
    (λ text trace_text. DrawnHeadline shuffle text trace_text status before now old new)

-- the listing is held where one is saved
listing_held : (run : RunWords) (now : Files) (net : Network) (ran : RunResult) (tasks : Tasks)
    → AreHeld now (run_product run net ran tasks).saves → SavesListing run now net tasks
listing_held run now net ran (Compiled parts) held = held.1.1.0
listing_held run now net ran (Given code) held = tt

-- a name that a run doesn't save under is none of its saves
other_name : (run : RunWords) (name : List ℕ) (before : Files) (net : Network) (ran : RunResult)
    (tasks : Tasks) → RunsTasks run.image before net tasks → ¬ IsSaved run name
    → IsOther name (run_product run net ran tasks).saves
other_name run name before net ran (Given code) are none =
    (λ e. none (inl e), (λ e. none (inr (inl e)), tt))
other_name run name before net ran (Compiled parts) are none = (
  λ e. none (inl e),
  (λ e. none (inr (inl e)), (λ e. none (inr (inr (no_image run.image are, e))), tt)),
)
  where
    no_image : (named : Option (List ℕ)) → RunsTasks named before net (Compiled parts)
        → named ≡ None
    no_image None h = refl
    no_image (Some image) h = absurd h

-- a product of a run that was written
written : (run : RunWords) (status : Status) (before now : Files) (old new : Outside)
    (product : Product) → MakesRun run before product → status ≡ end_status product.end
    → AreHeld now product.saves
    → ((name : List ℕ) → IsOther name product.saves → bytes_at now name ≡ bytes_at before name)
    → Changes old.shown new.shown (λ was is. is ≡ was ++ product.shown)
    → CountsNoFault old new → Gives run status before now old new
written run status before now old new product m ends saved others shown faults =
    let made : product ≡ run_product run m.net m.ran m.tasks = m.made in
    let held = subst (λ (p : Product). AreHeld now p.saves) made saved in
    let text = ap (λ (p : Product). p.shown) made in (
      m.holds_net.text,
      m.holds_trace.text,
      m.holds_net.holds.held,
      m.holds_trace.holds.held,
      record {
        net = m.net;
        trace = m.trace;
        ran = m.ran;
        tasks = m.tasks;
        texts = record {
          accepted = (m.holds_net.accepted, m.holds_trace.read);
          texts_within = (m.holds_net.holds.within, m.holds_trace.holds.within);
        };
        saves = saves_journal status run.stem run.limit m.net m.trace m.ran.journal m.ran.complete
            now m.is_ran.is (ends ∙ ap (λ (p : Product). end_status p.end) made) held.0 held.1.0;
        tasks_are = (m.are_tasks, listing_held run now m.net m.ran m.tasks held);
        begins = (
          m.is_ran.begins,
          changes_from old.shown new.shown (λ was is. is ≡ was ++ product.shown)
              (λ was is. is ≡ was ++ run_text m.net m.tasks m.ran)
              (λ was is h. h ∙ ap (λ (t : List ℕ). was ++ t) text) shown,
        );
        others = (
          λ name none.
              others name (subst (λ (p : Product). IsOther name p.saves) (sym made)
              (other_name run name before m.net m.ran m.tasks m.are_tasks none)),
          faults,
        );
      },
    )

-- a product of a drawn run that was written
written_drawn : (shuffle : ShuffleWords) (status : Status) (before now : Files)
    (old new : Outside) (product : Product) → MakesShuffle shuffle before product
    → status ≡ end_status product.end → AreHeld now product.saves
    → ((name : List ℕ) → IsOther name product.saves → bytes_at now name ≡ bytes_at before name)
    → Changes old.shown new.shown (λ was is. is ≡ was ++ product.shown)
    → CountsNoFault old new → GivesDrawn shuffle status before now old new
written_drawn shuffle status before now old new product m ends saved others shown faults =
    let made : product ≡ shuffle_product shuffle m.net m.journal m.complete = m.made in
    let held = subst (λ (p : Product). AreHeld now p.saves) made saved in
    let text = ap (λ (p : Product). p.shown) made in (
      m.holds_net.text,
      m.holds_trace.text,
      m.holds_net.holds.held,
      m.holds_trace.holds.held,
      record {
        net = m.net;
        trace = m.trace;
        journal = m.journal;
        complete = m.complete;
        texts = record {
          accepted = (m.holds_net.accepted, m.holds_trace.read);
          texts_within = (m.holds_net.holds.within, m.holds_trace.holds.within);
        };
        saves = saves_journal status shuffle.stem shuffle.limit m.net m.trace m.journal m.complete
            now m.drawn.is (ends ∙ ap (λ (p : Product). end_status p.end) made) held.0 held.1.0;
        shuffled = m.drawn.shuffled;
        shown = changes_from old.shown new.shown (λ was is. is ≡ was ++ product.shown)
            (λ was is. is ≡ was ++ drawn_text m.net m.journal m.complete)
            (λ was is h. h ∙ ap (λ (t : List ℕ). was ++ t) text) shown;
        others = (
          λ name none.
              others name (subst (λ (p : Product). IsOther name p.saves) (sym made)
              (λ e. none (inl e), (λ e. none (inr e), tt))),
          faults,
        );
      },
    )

-- what was made and written of a command line that asks for a run
of_run : (run : RunWords) (words : List (List ℕ)) (status : Status) (before now : Files)
    (old new : Outside) → AsksRun words run
    → MadeAndWritten status words before now old.shown new.shown → CountsNoFault old new
    → Gives run status before now old new
of_run run words status before now old new asks m faults =
    written run status before now old new m.product
    (subst (λ (r : Request). (meaning r).makes before m.product)
    (one_request words m.request (Run run) m.asked asks) m.made)
    m.ends m.saved m.other_names m.shown faults

pub runs_give_headline : RunsGiveHeadline
runs_give_headline run words status before now old new asks end answers told_before told_now =
    let ended = answers.ended end in
    of_run run words status before now old new asks
    (changes_some old.files new.files before now
    (λ was is. MadeAndWritten status words was is old.shown new.shown) told_before told_now
    ended.made) (ended.load_faults, ended.write_faults)

-- what was made and written of a command line that asks for a drawn run
of_drawn : (shuffle : ShuffleWords) (words : List (List ℕ)) (status : Status) (before now : Files)
    (old new : Outside) → AsksShuffle words shuffle
    → MadeAndWritten status words before now old.shown new.shown → CountsNoFault old new
    → GivesDrawn shuffle status before now old new
of_drawn shuffle words status before now old new asks m faults =
    written_drawn shuffle status before now old new m.product
    (subst (λ (r : Request). (meaning r).makes before m.product)
    (one_request words m.request (Shuffle shuffle) m.asked asks) m.made)
    m.ends m.saved m.other_names m.shown faults

pub draws_give_headline : DrawsGiveHeadline
draws_give_headline shuffle words status before now old new asks end answers told_before told_now =
    let ended = answers.ended end in
    of_drawn shuffle words status before now old new asks
    (changes_some old.files new.files before now
    (λ was is. MadeAndWritten status words was is old.shown new.shown) told_before told_now
    ended.made) (ended.load_faults, ended.write_faults)
