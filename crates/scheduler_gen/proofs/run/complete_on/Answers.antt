use Rattle.std.proofs.Common.{refl}
use Rattle.scheduler_gen.proofs.RunSteps.{finished_at}
use Rattle.scheduler_gen.proofs.run.complete_on.Goals as goal

pub returns : goal.returns
returns g c =
    let from = c.args.from in
    finished_at from from c.run.new.config c.args.limit c.into_journal.result
    c.is_complete-complete.result refl c.requires.few
    (rw c.len.ensures.len at c.in_ok-run.ensures.goes_on)
    (rw c.len.ensures.len at c.in_ok-run.ensures.ends) c.into_journal.ensures.journal
    c.into_journal.ensures.legal c.is_complete-complete.ensures
