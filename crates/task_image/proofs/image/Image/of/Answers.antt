use Rattle.std.proofs.Common.{sym, subst}
use Rattle.task_image.specs.Images.{IsImage}
use Rattle.task_image.proofs.Joined.{joined_of, image_is}
use Rattle.task_image.proofs.image.Image.of.Goals as goal

pub returns-clause-image : goal.returns-clause-image
returns-clause-image c =
    joined_of c.args.net.now.machines c.in_ok-heads.heads.items c.args.codes c.in_ok-heads.ensures

pub returns-clause-is_image : goal.returns-clause-is_image
returns-clause-is_image c =
    subst IsImage
    (sym (joined_of c.args.net.now.machines c.in_ok-heads.heads.items c.args.codes
    c.in_ok-heads.ensures))
    (image_is c.args.net.now c.args.codes c.in_ok-heads.heads.items c.requires c.in_ok-heads.ensures
    c.args.net.now.few_machines)
