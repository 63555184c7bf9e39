use Rattle.std.proofs.Common.{[], get_or, subst, sym}
use Rattle.journals.specs.Alone.{IsAlone}
use Rattle.worker_core.proofs.ByStamp.{rises_then_rise}
use Rattle.worker_run.proofs.MergedAlone.{merged_alone}
use Rattle.worker_run.proofs.gathering.adopt_merge.Goals as goal

pub merge_logs-requires : goal.merge_logs-requires
merge_logs-requires c =
    λ m. rises_then_rise 0 (get_or c.args.logs m []) (c.requires.alone m).rising

pub resume_prefix-requires-clause-alone : goal.resume_prefix-requires-clause-alone
resume_prefix-requires-clause-alone c = λ m.
    subst (IsAlone c.args.net.now m) (sym c.in_ok-all.ensures)
    (merged_alone c.laws.ensures.log_alone c.args.net.now c.args.logs c.requires.alone m)
