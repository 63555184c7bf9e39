use Rattle.std.proofs.Common.{ap, ◌∙◌}
use Rattle.task_image.specs.Images.{codes_of}
use Rattle.task_image.proofs.Joined.{joined_codes}
use Rattle.task_image.proofs.image.Image.into_codes.Goals as goal

pub returns : goal.returns
returns c =
    joined_codes c.self.inside.heads.items c.self.inside.codes c.self.invariant
    ∙ ap codes_of c.self.view_is
