use Rattle.std.proofs.Common.{sym, ◌∙◌}
use Rattle.worker_core.specs.Parts.{state_of}
use Rattle.worker_core.proofs.AreParts.{rest_within}
use Rattle.worker_core.proofs.parts.Parts.feed.Goals as goal

pub deliver-requires-clause-machine : goal.deliver-requires-clause-machine
deliver-requires-clause-machine c =
    rest_within c.args.net.now c.args.trace.now
    (state_of c.args.self.now) c.in-Some.first c.requires.parts.core
    (sym c.first.ensures ∙ c.in-Some.is)
