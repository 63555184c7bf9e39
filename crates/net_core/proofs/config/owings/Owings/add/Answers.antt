use Rattle.std.proofs.Common.{List, sym, subst}
use Rattle.net_core.specs.declared.config.emissions.Emission.{Emission}
use Rattle.net_core.specs.Emissions.{IsQueue}
use Rattle.net_core.proofs.config.owings.Owings.add.Goals as goal

pub invariant_of-self-2 : goal.invariant_of-self-2
invariant_of-self-2 c =
    let i = c.self.inside in
    c.emit_given.ensures.queue i.front i.cursors.items
    (subst (λ (l : List Emission). IsQueue l i.front i.cursors.items i.last.items)
    (sym c.make_room_for.ensures.items) c.self.invariant)
