use Rattle.std.proofs.Common.{sym, ap, ◌∙◌}
use Rattle.polis_base.specs.Lists.{head_of}
use Rattle.worker_core.proofs.HeadOfDrop.{head_of_drop}
use Rattle.worker_core.proofs.state.Queue.first.Goals as goal

pub returns-then-self-len : goal.returns-then-self-len
returns-then-self-len c =
    sym (head_of_drop c.self.inside.items c.self.inside.passed c.get.result.now c.get.ensures)
    ∙ ap head_of c.self.view_is
