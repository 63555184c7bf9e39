use Rattle.std.proofs.Common.{subst, sym}
use Rattle.transition_table.specs.declared.network.Network.{Network}
use Rattle.run_watch.specs.Monitors.{IsMonitor}
use Rattle.run_watch.specs.WatchLines.{watched_line}
use Rattle.commands.specs.Watch.{end_watched}
use Rattle.commands.proofs.IsMade.{product_ends}
use Rattle.commands.proofs.watch.product_of.Goals as goal

pub watch-requires-clause-monitor : goal.watch-requires-clause-monitor
watch-requires-clause-monitor c =
    subst (λ (n : Network). IsMonitor c.args.net.now n) (sym c.new-reactor.ensures)
    c.requires.monitor

pub print_watched-requires : goal.print_watched-requires
print_watched-requires c = rw c.new-reactor.ensures at c.in_ok-said.ensures.shown

pub returns : goal.returns
returns c =
    let said = c.in_ok-said.said in
    record {
      said = said;
      answers = (rw c.new-reactor.ensures at c.in_ok-said.ensures.answer);
      made =
          product_ends c.ending.result c.in_ok-shown.shown
          (watched_line c.args.monitor.now said) c.end_at.result (end_watched said)
          c.ending.ensures c.in_ok-shown.ensures c.end_at.ensures;
    }
