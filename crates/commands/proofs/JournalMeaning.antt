-- What commands mean that judge a journal.
use Rattle.std.proofs.Common.{◌≡◌, inl, inr, ℕ, Bool, List, refl, sym, ap, subst, ◌∙◌, IsTrue, Option}
use Rattle.polis_base.specs.Host.{Files, WhereTold}
use Rattle.transition_table.specs.declared.network.Network.{Network}
use Rattle.journals.specs.declared.entry.Entry.{Entry}
use Rattle.journals.specs.declared.entry.TraceItem.{TraceItem}
use Rattle.polis_words.specs.declared.cause.Cause.{Cause}
use Rattle.polis_words.specs.declared.cause.Cause.TheVariants.{Illegal as Unlawful, Differ as TablesDiffer}
use Rattle.polis_words.specs.declared.status.Status.{Status}
use Rattle.polis_words.specs.declared.status.Status.TheVariants.{Refused, Illegal}
use Rattle.polis_words.specs.Lines.{cause_status}
use Rattle.polis_words.specs.Replay.{ReplayWords}
use Rattle.output_files.specs.declared.product.Product.{Product}
use Rattle.output_files.specs.Ends.{end_status}
use Rattle.output_files.specs.Saves.{AreApart}
use Rattle.input_files.specs.JournalFiles.{JournalFails}
use Rattle.commands.specs.Meanings.{finds_illegal, ends_judged}
use Rattle.input_files.specs.Failures.{is_finding}
use Rattle.input_files.specs.declared.load.Detail.{Detail}
use Rattle.commands.specs.Judging.{IsJudged, AcceptsReplay, FailsReplay, IsIllegalReplay, judging_meaning}
use Rattle.commands.specs.inner.Lawful.{IsLawful}
use Rattle.commands.specs.Made.{IsMadeProduct}
use Rattle.polis_base.proofs.WhereTold.{told_from}
use Rattle.input_files.proofs.InputsFail.{inputs_refused, inputs_unfound}
use Rattle.commands.proofs.JournalFails.{journal_refused, held_unlawful, faulty_journal}
use Rattle.commands.proofs.IsMade.{product_made}

-- where a file fails the files aren't all accepted, or the journal isn't legal and rising
replay_refused : (files : Files) (replay : ReplayWords) (name : List ℕ) (cause : Cause)
    → cause_status cause ≡ Refused → FailsReplay replay files name cause
    → ¬ AcceptsReplay replay files
replay_refused files replay name cause s (inl h) = λ all.
    let holds = all.4 in
    inputs_refused files replay.net replay.trace name cause all.0 all.1 s h holds.holds_net
    holds.holds_trace
replay_refused files replay name cause s (inr h) = λ all.
    let holds = all.4 in
    journal_refused files all.0 all.1 replay.journal cause all.2 all.3 s
    (h.5 all.0 all.1 holds.holds_net holds.holds_trace) holds.holds_journal

replay_found : (files : Files) (replay : ReplayWords) (name : List ℕ) (cause : Cause)
    → cause_status cause ≡ Illegal → FailsReplay replay files name cause
    → IsIllegalReplay replay files
replay_found files replay name cause s (inl h) =
    absurd (inputs_unfound files replay.net replay.trace name cause (ap is_finding s) h)
replay_found files replay name cause s (inr h) =
    let read = faulty_journal files h.1 h.2 replay.journal cause s (h.5 h.1 h.2 h.3 h.4) in
    record {
      accepted = (
        h.1,
        h.2,
        read.0,
        read.1,
        record { holds_net = h.3; holds_trace = h.4; holds_journal = read.2 },
      );
      unlawful = λ net trace journal stamps holds.
          held_unlawful files net trace replay.journal cause journal stamps s
          (h.5 net trace holds.holds_net holds.holds_trace) holds.holds_journal;
    }

-- only an illegal journal is found, and only by its cause
other_unfound : (files : Files) (replay : ReplayWords) (name text : List ℕ)
    → ¬ FailsReplay replay files name (TablesDiffer text)
other_unfound files replay name text (inl h) =
    inputs_unfound files replay.net replay.trace name (TablesDiffer text) refl h
other_unfound files replay name text (inr h) = by_case (h.5 h.1 h.2 h.3 h.4)
  where
    by_case : ¬ JournalFails files h.1 h.2 replay.journal (TablesDiffer text)
    by_case (inl unloaded) = unloaded
    by_case (inr faulty) = faulty.2

finding_is : (files : Files) (replay : ReplayWords) (name : List ℕ) (cause : Cause)
    → FailsReplay replay files name cause → IsTrue (is_finding (cause_status cause))
    → cause_status cause ≡ Illegal
finding_is files replay name (Unlawful entry) h f = refl
finding_is files replay name (TablesDiffer text) h f =
    absurd (other_unfound files replay name text h)
finding_is files replay name other h f = cc

pub illegal_is : (P : Files → Type 0) (files : Files) (status : Status)
    → finds_illegal P status files → (status ≡ Illegal) × P files
illegal_is P files Illegal h = (refl, h)
illegal_is P files other h = absurd h

found_illegal : (files : Files) (replay : ReplayWords) (name : List ℕ) (cause : Cause)
    → FailsReplay replay files name cause → IsTrue (is_finding (cause_status cause))
    → finds_illegal (IsIllegalReplay replay) (cause_status cause) files
found_illegal files replay name cause h f =
    let e = finding_is files replay name cause h f in
    subst (λ (s : Status). finds_illegal (IsIllegalReplay replay) s files) (sym e)
    (replay_found files replay name cause e h)

-- a journal that is judged to be legal isn't found to be illegal
pub judged_legal : (files : Files) (replay : ReplayWords) (net : Network)
    (trace : List TraceItem) (journal : List Entry) (complete : Bool) (status : Status)
    → IsJudged replay files net trace journal complete
    → ¬ finds_illegal (IsIllegalReplay replay) status files
judged_legal files replay net trace journal complete status judged found =
    (illegal_is (IsIllegalReplay replay) files status found).1.unlawful net trace journal
    judged.stamps judged.holds judged.lawful

found_accepts : (files : Files) (replay : ReplayWords) (status : Status)
    → finds_illegal (IsIllegalReplay replay) status files → AcceptsReplay replay files
found_accepts files replay status found =
    (illegal_is (IsIllegalReplay replay) files status found).1.accepted

found_ends : (P : Files → Type 0) (files : Files) (status : Status)
    → finds_illegal P status files → IsTrue (ends_judged status)
found_ends P files status found = ap ends_judged (illegal_is P files status found).0

found_once : (P : Files → Type 0) (files : Files) (s t : Status) → finds_illegal P s files
    → finds_illegal P t files → s ≡ t
found_once P files s t h k = (illegal_is P files s h).0 ∙ sym (illegal_is P files t k).0

pub judging_lawful : (detail : Detail) (replay : ReplayWords)
    (of : Network → List Entry → Bool → Product) → IsLawful (judging_meaning detail replay of)
judging_lawful detail replay of = record {
  made_accepts = λ files product m. (m.net, m.trace, m.journal, m.judged.stamps, m.judged.holds);
  made_finds = λ files product status m.
      judged_legal files replay m.net m.trace m.journal m.complete status m.judged;
  refused = λ files name cause h s. replay_refused files replay name cause s h;
  found = λ files name cause h f. found_illegal files replay name cause h f;
  found_accepts = λ files status. found_accepts files replay status;
  found_ends = found_ends (IsIllegalReplay replay);
  found_once = found_once (IsIllegalReplay replay);
}

-- what is made of a journal
pub judging_made : (detail : Detail) (o : Option Files) (replay : ReplayWords)
    (of : Network → List Entry → Bool → Product) (net : Network) (trace : List TraceItem)
    (journal : List Entry) (complete : Bool) (product : Product)
    → WhereTold o (λ files. IsJudged replay files net trace journal complete)
    → product ≡ of net journal complete → AreApart (of net journal complete).saves
    → IsTrue (ends_judged (end_status (of net journal complete).end))
    → IsMadeProduct (judging_meaning detail replay of) o product
judging_made detail o replay of net trace journal complete product judged made apart ends =
    product_made (judging_meaning detail replay of) o product (of net journal complete) made apart
    ends
    (told_from o (λ files. IsJudged replay files net trace journal complete) _
    (λ files h. record {
      net = net;
      trace = trace;
      journal = journal;
      complete = complete;
      judged = h;
      made = made;
    }) judged)
