use Rattle.std.proofs.Common.{false, true, refl, Ok}
use Rattle.polis_base.specs.declared.host.Load.TheVariants as loads
use Rattle.polis_words.specs.declared.cause.Cause.TheVariants.{ReadFault, Absent, TooLong}
use Rattle.input_files.specs.Inputs.{LoadFails}
use Rattle.input_files.specs.Details.{explains_in}
use Rattle.input_files.proofs.Refused.{cause_alone, cause_explained, left_loaded, left_refused, left_unread, refused_so, unread_explained}
use Rattle.polis_base.proofs.WhereTold.{told_always}
use Rattle.input_files.proofs.load.load_text.Goals.{in-Cause, in-Cause-detail, in-Explained, in-Explained-detail}
use Rattle.input_files.proofs.load.load_text.Goals as goal

pub returns-in-Absent-clause-failed : goal.returns-in-Absent-clause-failed
returns-in-Absent-clause-failed g c =
    let o = g.H.Host.files c.args.host.now in
    let name = c.args.name.now in
    let detail = c.args.detail in
    let max = c.args.max in
    let explanation = c.match-detail.explanation in
    refused_so name o (λ files. LoadFails files max name) (explains_in detail max) Absent
    explanation c.failure_of.result c.failure_of.ensures
    (refl, rw c.in-Absent.is at c.load.ensures.answer, refl)
    (elim c.match-detail.branch [
      | in-Cause w ↦
          cause_alone detail max o name Absent explanation w.new.result w.in-Cause.is
          w.explanation-is w.new.ensures
      | in-Explained w ↦
          cause_explained detail max o name Absent explanation w.explain_absent-explanation.result
          w.in-Explained.is w.explanation-is
          w.explain_absent-explanation.ensures
    ])

pub returns-in-Absent-clause-left : goal.returns-in-Absent-clause-left
returns-in-Absent-clause-left g c =
    left_refused c.args.name.now Absent c.match-detail.explanation c.failure_of.result
    c.failure_of.ensures refl
    (left_loaded loads.Absent false (rw c.in-Absent.is at c.load.ensures.leaves) refl)

pub returns-in-TooLong-clause-failed : goal.returns-in-TooLong-clause-failed
returns-in-TooLong-clause-failed g c =
    let o = g.H.Host.files c.args.host.now in
    let name = c.args.name.now in
    let detail = c.args.detail in
    let max = c.args.max in
    let explanation = c.match-detail-2.explanation in
    refused_so name o (λ files. LoadFails files max name) (explains_in detail max) TooLong
    explanation c.failure_of-in-TooLong.result c.failure_of-in-TooLong.ensures
    (refl, rw c.in-TooLong.is at c.load.ensures.answer, refl)
    (elim c.match-detail-2.branch [
      | in-Cause-detail w ↦
          cause_alone detail max o name TooLong explanation w.new-in-Cause-detail.result
          w.in-Cause-detail.is w.explanation-is w.new-in-Cause-detail.ensures
      | in-Explained-detail w ↦
          cause_explained detail max o name TooLong explanation w.explain_long-explanation.result
          w.in-Explained-detail.is w.explanation-is
          w.explain_long-explanation.ensures
    ])

pub returns-in-TooLong-clause-left : goal.returns-in-TooLong-clause-left
returns-in-TooLong-clause-left g c =
    left_refused c.args.name.now TooLong c.match-detail-2.explanation c.failure_of-in-TooLong.result
    c.failure_of-in-TooLong.ensures refl
    (left_loaded loads.TooLong false (rw c.in-TooLong.is at c.load.ensures.leaves) refl)

pub returns-in-Failed-clause-failed : goal.returns-in-Failed-clause-failed
returns-in-Failed-clause-failed g c =
    let o = g.H.Host.files c.args.host.now in
    let name = c.args.name.now in
    let detail = c.args.detail in
    let max = c.args.max in
    refused_so name o (λ files. LoadFails files max name) (explains_in detail max) ReadFault
    (Ok c.new-in-Failed.result) c.failure_of-in-Failed.result c.failure_of-in-Failed.ensures
    (refl, told_always o (λ files. LoadFails files max name ReadFault) (λ files. tt), refl)
    (unread_explained detail max o name c.new-in-Failed.result c.new-in-Failed.ensures)

pub returns-in-Failed-clause-left : goal.returns-in-Failed-clause-left
returns-in-Failed-clause-left g c =
    left_unread c.args.name.now c.new-in-Failed.result c.failure_of-in-Failed.result
    c.failure_of-in-Failed.ensures
    (left_loaded loads.Failed true (rw c.in-Failed.is at c.load.ensures.leaves) refl)
