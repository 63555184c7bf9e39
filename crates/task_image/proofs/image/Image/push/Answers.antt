use Rattle.std.proofs.Common.{ap, ◌∙◌, ◌++◌, ◌∷◌, []}
use Rattle.task_image.proofs.Joined.{joined_push}
use Rattle.task_image.proofs.image.Image.push.Goals as goal

pub returns-clause-ok : goal.returns-clause-ok
returns-clause-ok c =
    rw (c.in-Ok.ensures.items, c.in_ok-push.ensures.ok, c.in_ok-reserve.ensures.items)
    (joined_push c.self.inside.heads.items c.self.inside.codes _ c.args.machine.code
    c.self.invariant ∙ ap (λ ms. ms ++ c.args.machine ∷ []) c.self.view_is)
