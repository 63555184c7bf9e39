use Rattle.transition_table.specs.samples.Join.{join as the_network}
use Rattle.sample_networks.proofs.Pushed.{one_made, three_made}
use Rattle.sample_networks.proofs.join.network.Goals as goal

pub returns : goal.returns
returns c =
    c.laws_of_data.ensures.same_network _ the_network
    (record {
      name = c.of_token.ensures;
      domains = c.new.ensures;
      events = three_made _ _ _ _ _ _ _ _ _ _ c.new-events.ensures c.in_ok-push.ensures.ok
          c.in_ok-push-2.ensures.ok c.in_ok-push-3.ensures.ok c.in_ok-pure_event.ensures
          c.in_ok-pure_event-2.ensures c.in_ok-pure_event-3.ensures;
      machines = one_made _ _ _ _ c.new-machines.ensures c.in_ok-push-4.ensures.ok
          c.in_ok-join_machine.ensures;
    })
