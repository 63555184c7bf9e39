use Rattle.std.proofs.Common.{List, ◌++◌, sym, ap, ◌∙◌}
use Rattle.net_reader.specs.declared.raw.RawEvent.{RawEvent}
use Rattle.net_gen.specs.Networks.{events_of}
use Rattle.net_gen.proofs.MoreItems.{flat_more}
use Rattle.net_gen.proofs.network.events.Goals as goal

pub loop-i-preserved : goal.loop-i-preserved
loop-i-preserved c =
    c.in_ok-push_events.ensures
    ∙ ap (λ (l : List RawEvent). l ++ events_of c.loop-i.i) c.loop-i.invariant
    ∙ sym (flat_more events_of c.loop-i.i)
