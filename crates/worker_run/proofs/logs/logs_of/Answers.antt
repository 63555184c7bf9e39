use Rattle.std.proofs.Common.{rules, arith, ap, subst, List, length}
use Rattle.std.proofs.lemmas.List.{length_push}
use Rattle.journals.specs.Alone.{LegalAlone}
use Rattle.journals.specs.declared.stamped.Stamped.{Stamped}
use Rattle.worker_run.proofs.OneLogMore.{one_more}
use Rattle.worker_run.proofs.logs.logs_of.Goals as goal

pub loop-cell-preserved : goal.loop-cell-preserved
loop-cell-preserved g c =
    let before = c.loop-cell.invariant in
    let longer = ap (λ (l : List (List Stamped)). length l) c.in_ok-push.ensures.ok in
    let size = length_push c.loop-cell.logs c.into_log_of.result in
    let log = c.into_log_of.result in
    let here =
    subst (λ m. LegalAlone g.N.Naming.net m log) before.count c.into_log_of.ensures.legal in
    record {
      left = search rules;
      count = omega arith;
      alone = rw c.in_ok-push.ensures.ok
          (one_more (LegalAlone g.N.Naming.net) c.loop-cell.logs log here before.alone);
    }
