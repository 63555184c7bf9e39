use Rattle.std.proofs.Common.{subst, sym}
use Rattle.journals.specs.Journals.{IsTrace}
use Rattle.transition_table.specs.declared.network.Network.{Network}
use Rattle.commands.proofs.ShuffleMeaning.{drawn_run}
use Rattle.commands.proofs.shuffle.draw.Goals as goal

pub shuffle-requires : goal.shuffle-requires
shuffle-requires c =
    record {
      trace = subst (λ (n : Network). IsTrace n c.args.inputs.now.trace)
          (sym c.new-reactor.ensures) c.requires.trace;
    }

pub returns : goal.returns
returns c =
    let finished = c.in_ok-finished.ensures in
    let net = c.new-reactor.ensures in
    drawn_run c.laws.ensures.complete c.args.asked.now c.args.inputs.now.net
    c.args.inputs.now.trace c.in_ok-finished.finished.journal c.in_ok-finished.finished.complete
    c.requires.trace
    (rw (net, c.seed.ensures, c.order_of-order.ensures, c.order.ensures, c.limit.ensures.is) at
    finished.shuffled)
    (rw net at finished.legal) (rw net at finished.complete)
