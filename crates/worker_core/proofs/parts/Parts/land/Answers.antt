use Rattle.std.proofs.Common.{sym, ◌∙◌}
use Rattle.worker_core.specs.Parts.{state_of}
use Rattle.worker_core.proofs.AreParts.{held_within}
use Rattle.worker_core.proofs.parts.Parts.land.Goals as goal

pub deliver-requires-clause-machine : goal.deliver-requires-clause-machine
deliver-requires-clause-machine c =
    held_within c.args.net.now c.args.trace.now
    (state_of c.args.self.now) c.args.s c.in-Some.first c.requires.parts.core
    (sym c.first_in_hand.ensures ∙ c.in-Some.is)
