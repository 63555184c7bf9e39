use Rattle.polis_base.specs.declared.limits.TheConstants.{TEXT_MAX}
use Rattle.input_files.specs.Inputs.{NetFails}
use Rattle.input_files.specs.Details.{explains_in}
use Rattle.input_files.proofs.IsNetFault.{net_faulty}
use Rattle.input_files.proofs.Refused.{cause_alone, cause_explained, read_refused, refused_so, text_explained, unread_is}
use Rattle.input_files.proofs.load.refuse_net.Goals.{in-Cause, in-Explained}
use Rattle.input_files.proofs.load.refuse_net.Goals as goal

pub returns-clause-failed : goal.returns-clause-failed
returns-clause-failed c = λ o held.
    let name = c.args.name.now in
    let detail = c.args.detail in
    let text = c.args.text.now in
    let cause = c.args.cause in
    let explanation = c.match-detail.explanation in
    refused_so name o (λ files. NetFails files name) (explains_in detail TEXT_MAX) cause
    explanation c.failure_of.result c.failure_of.ensures
    (net_faulty o name text cause held c.requires.fault c.requires.refused)
    (elim c.match-detail.branch [
      | in-Cause w ↦
          cause_alone detail TEXT_MAX o name cause explanation w.new.result w.in-Cause.is
          w.explanation-is w.new.ensures
      | in-Explained w ↦
          cause_explained detail TEXT_MAX o name cause explanation w.explain_net-explanation.result
          w.in-Explained.is w.explanation-is
          (text_explained o TEXT_MAX name text cause w.explain_net-explanation.result held
          (rw w.as_slice.ensures at w.explain_net-explanation.ensures))
    ])

pub returns-clause-read : goal.returns-clause-read
returns-clause-read c =
    unread_is c.args.name.now c.args.cause c.match-detail.explanation c.failure_of.result
    c.failure_of.ensures (read_refused c.args.cause c.requires.refused)
