use Rattle.std.proofs.Common.{sym, subst, ap, ◌∙◌}
use Rattle.transition_table.specs.Transitions.{OfMachine, Transition}
use Rattle.transition_table.specs.declared.network.Network.{Network}
use Rattle.event_buffer.specs.Reacting.{FrozenState}
use Rattle.event_buffer.proofs.OutcomeIn.{written_widths}
use Rattle.event_buffer.proofs.frozen.Frozen.run.Goals as goal

pub invariant_of-self : goal.invariant_of-self
invariant_of-self g c =
    let i = c.self.inside in
    let kept = c.self.invariant in
    let same = c.requires ∙ sym (ap (λ (f : FrozenState). f.net) c.self.view_is) in
    let written =
    subst
    (λ (n : Network).
    OfMachine n i.machine (λ machine. Transition machine i.snapshot c.react.new.o))
    same c.react.ensures in
    record {
      snapshot_fits = kept.snapshot_fits;
      widths =
          written_widths i.net.now i.machine i.snapshot c.react.new.o c.laws.ensures.transition_fits
          kept.snapshot_fits written;
      has_room = kept.has_room;
      small = kept.small;
    }
