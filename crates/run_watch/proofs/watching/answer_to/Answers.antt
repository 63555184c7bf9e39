use Rattle.std.proofs.Common.{List, subst}
use Rattle.polis_base.specs.declared.limits.TheConstants.{ENTRIES_MAX}
use Rattle.transition_table.specs.declared.network.Network.{Network}
use Rattle.journals.specs.declared.entry.TraceItem.{TraceItem}
use Rattle.journals.specs.Schedules.{IsSchedule}
use Rattle.run_watch.specs.Watches.{Says}
use Rattle.run_watch.proofs.watching.answer_to.Goals as goal

pub returns-clause-answer : goal.returns-clause-answer
returns-clause-answer g c =
    let heard = c.args.heard.now in
    let watch = c.in_ok-finished.finished.journal in
    record {
      watch = watch;
      scheduled =
          subst
          (λ (t : List TraceItem). IsSchedule (g.R.Reactor.meaning c.args.monitor.now) t
          ENTRIES_MAX watch) c.in_ok-trace.ensures
          (c.in_ok-finished.ensures.schedule c.new.ensures);
      says =
          subst (λ (net : Network). Says net heard watch c.in_ok-answer.answer)
          c.network.ensures c.in_ok-answer.ensures.says;
    }
