use Rattle.std.proofs.Common.{◌^◌, [], ap, ◌∙◌}
use Rattle.transition_table.specs.declared.network.Network.{Network}
use Rattle.net_core.specs.Moments.{Moment}
use Rattle.polis_base.specs.Draws.{draw, next}
use Rattle.run_shuffle.specs.Shuffles.{after_order, order_from}
use Rattle.run_shuffle.proofs.DrawnOn.{end_is_complete, end_is_legal, end_is_shuffled}
use Rattle.run_shuffle.proofs.run.shuffle.Goals as goal

pub returns-clause-shuffled : goal.returns-clause-shuffled
returns-clause-shuffled g c =
    let drawn = c.in_ok-run.ensures in
    let moved = c.pace-pace.ensures.moves ∙ ap next c.of_seed-draws.ensures in
    end_is_shuffled _ c.args.trace.now c.args.seed c.args.order c.args.limit
    c.in_ok-config.config c.run.new.config c.into_journal.result c.order_of_run.result
    c.pace-pace.result c.order_of_run.new.draws.x
    (record {
      begun =
          c.in_ok-config.ensures
          ∙ ap (λ (net : Network). let moment : Moment =
          record { net = net; trace = c.args.trace.now; journal = [] } in moment)
          c.network.ensures;
      net_stays = drawn.net;
      trace_stays = drawn.trace;
      handed = c.into_journal.ensures.journal;
    }) (c.order_of_run.ensures.order ∙ ap (order_from c.args.order) moved)
    (c.pace-pace.ensures.pace ∙ ap (λ k. 2 ^ draw k 5) c.of_seed-draws.ensures)
    (c.order_of_run.ensures.moves ∙ ap (after_order c.args.order) moved) drawn.drawn
    drawn.whole

pub returns-clause-legal : goal.returns-clause-legal
returns-clause-legal g c =
    let drawn = c.in_ok-run.ensures in
    end_is_legal _ c.args.trace.now c.in_ok-config.config c.run.new.config c.into_journal.result
    (record {
      begun =
          c.in_ok-config.ensures
          ∙ ap (λ (net : Network). let moment : Moment =
          record { net = net; trace = c.args.trace.now; journal = [] } in moment)
          c.network.ensures;
      net_stays = drawn.net;
      trace_stays = drawn.trace;
      handed = c.into_journal.ensures.journal;
    }) c.into_journal.ensures.legal

pub returns-clause-complete : goal.returns-clause-complete
returns-clause-complete g c =
    let drawn = c.in_ok-run.ensures in
    end_is_complete _ c.args.trace.now c.in_ok-config.config c.run.new.config
    c.into_journal.result c.is_complete-complete.result
    (record {
      begun =
          c.in_ok-config.ensures
          ∙ ap (λ (net : Network). let moment : Moment =
          record { net = net; trace = c.args.trace.now; journal = [] } in moment)
          c.network.ensures;
      net_stays = drawn.net;
      trace_stays = drawn.trace;
      handed = c.into_journal.ensures.journal;
    }) c.is_complete-complete.ensures
