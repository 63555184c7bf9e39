use Rattle.std.proofs.Common.{inl, List, refl}
use Rattle.polis_base.specs.declared.limits.TheConstants.{LONG_FILE_MAX}
use Rattle.journals.specs.declared.entry.TraceItem.{TraceItem}
use Rattle.journal_text.specs.declared.fault.JournalFault.TheVariants.{Line as FaultyLine}
use Rattle.polis_words.specs.declared.cause.Cause.TheVariants.{JournalLine}
use Rattle.input_files.specs.Inputs.{LoadFails}
use Rattle.input_files.specs.JournalFiles.{JournalFails}
use Rattle.input_files.specs.Details.{explains_in}
use Rattle.input_files.proofs.FileFails.{file_fails}
use Rattle.input_files.proofs.Refused.{cause_alone, cause_explained, left_refused, refused_so, text_explained, journal_faulty}
use Rattle.input_files.proofs.load.load_journal.Goals.{in-Cause, in-Explained}
use Rattle.input_files.proofs.load.load_journal.Goals as goal

pub returns-in-Err-clause-failed : goal.returns-in-Err-clause-failed
returns-in-Err-clause-failed g c =
    let name = c.args.name.now in
    let net = c.args.net.now in
    file_fails name (g.H.Host.files c.args.host.now) (λ files. LoadFails files LONG_FILE_MAX name)
    (λ files cause. (trace : List TraceItem) → JournalFails files net trace name cause)
    (explains_in c.args.detail LONG_FILE_MAX) c.in-Err.failure (λ files cause h trace. inl h)
    c.in-Err.ensures.failed

pub returns-in-Err-Line-clause-failed : goal.returns-in-Err-Line-clause-failed
returns-in-Err-Line-clause-failed g c =
    let o = g.H.Host.files c.args.host.now in
    let name = c.args.name.now in
    let detail = c.args.detail in
    let text = c.in-Ok.text in
    let line = c.in-Err-Line.line in
    let kind = c.in-Err-Line.kind in
    let cause = JournalLine line kind in
    let explanation = c.match-detail.explanation in
    refused_so name o
    (λ files cause. (trace : List TraceItem) → JournalFails files c.args.net.now trace name cause)
    (explains_in detail LONG_FILE_MAX) cause explanation c.failure_of.result c.failure_of.ensures
    (journal_faulty o c.args.net.now name text line kind c.in-Ok.ensures.held
    (rw c.as_slice.ensures at (c.read_journal.ensures.fault (FaultyLine line kind)
    (rw c.in-Err-Line.field-0-is at c.in-Err-Line.is) (λ e. cc))))
    (elim c.match-detail.branch [
      | in-Cause w ↦
          cause_alone detail LONG_FILE_MAX o name cause explanation w.new.result w.in-Cause.is
          w.explanation-is w.new.ensures
      | in-Explained w ↦
          cause_explained detail LONG_FILE_MAX o name cause explanation
          w.explain_journal_line-explanation.result w.in-Explained.is w.explanation-is
          (text_explained o LONG_FILE_MAX name text cause w.explain_journal_line-explanation.result
          c.in-Ok.ensures.held
          (rw w.as_slice-in-Explained.ensures at w.explain_journal_line-explanation.ensures))
    ])

pub returns-in-Err-Line-clause-left : goal.returns-in-Err-Line-clause-left
returns-in-Err-Line-clause-left g c =
    left_refused c.args.name.now (JournalLine c.in-Err-Line.line c.in-Err-Line.kind)
    c.match-detail.explanation c.failure_of.result c.failure_of.ensures refl c.in-Ok.ensures.left
