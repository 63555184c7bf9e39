use Rattle.std.proofs.Common.{inl, refl}
use Rattle.polis_base.specs.declared.limits.TheConstants.{TEXT_MAX}
use Rattle.trace_text.specs.declared.fault.TraceFault.TheVariants.{Line as FaultyLine}
use Rattle.polis_words.specs.declared.cause.Cause.TheVariants.{TraceLine}
use Rattle.input_files.specs.Inputs.{LoadFails, TraceFails}
use Rattle.input_files.specs.Details.{explains_in}
use Rattle.input_files.proofs.FileFails.{file_fails}
use Rattle.input_files.proofs.Refused.{cause_alone, cause_explained, left_refused, refused_so, text_explained, trace_faulty}
use Rattle.input_files.proofs.load.load_trace.Goals.{in-Cause, in-Explained}
use Rattle.input_files.proofs.load.load_trace.Goals as goal

pub returns-in-Err-clause-failed : goal.returns-in-Err-clause-failed
returns-in-Err-clause-failed g c =
    let name = c.args.name.now in
    file_fails name (g.H.Host.files c.args.host.now) (λ files. LoadFails files TEXT_MAX name)
    (λ files. TraceFails files c.args.net.now name) (explains_in c.args.detail TEXT_MAX)
    c.in-Err.failure (λ files cause h. inl h) c.in-Err.ensures.failed

pub returns-in-Err-Line-clause-failed : goal.returns-in-Err-Line-clause-failed
returns-in-Err-Line-clause-failed g c =
    let o = g.H.Host.files c.args.host.now in
    let name = c.args.name.now in
    let detail = c.args.detail in
    let text = c.in-Ok.text in
    let line = c.in-Err-Line.line in
    let kind = c.in-Err-Line.kind in
    let cause = TraceLine line kind in
    let explanation = c.match-detail.explanation in
    refused_so name o
    (λ files. TraceFails files c.args.net.now name)
    (explains_in detail TEXT_MAX) cause explanation c.failure_of.result c.failure_of.ensures
    (trace_faulty o c.args.net.now name text line kind c.in-Ok.ensures.held
    (rw c.as_slice.ensures at (c.read_trace.ensures.fault (FaultyLine line kind)
    (rw c.in-Err-Line.field-0-is at c.in-Err-Line.is) (λ e. cc))))
    (elim c.match-detail.branch [
      | in-Cause w ↦
          cause_alone detail TEXT_MAX o name cause explanation w.new.result w.in-Cause.is
          w.explanation-is w.new.ensures
      | in-Explained w ↦
          cause_explained detail TEXT_MAX o name cause explanation
          w.explain_trace_line-explanation.result w.in-Explained.is w.explanation-is
          (text_explained o TEXT_MAX name text cause w.explain_trace_line-explanation.result
          c.in-Ok.ensures.held
          (rw w.as_slice-in-Explained.ensures at w.explain_trace_line-explanation.ensures))
    ])

pub returns-in-Err-Line-clause-left : goal.returns-in-Err-Line-clause-left
returns-in-Err-Line-clause-left g c =
    left_refused c.args.name.now (TraceLine c.in-Err-Line.line c.in-Err-Line.kind)
    c.match-detail.explanation c.failure_of.result c.failure_of.ensures refl c.in-Ok.ensures.left
