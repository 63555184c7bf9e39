use Rattle.std.proofs.Common.{ap, length, arith}
use Rattle.task_image.proofs.Joined.{joined_length}
use Rattle.task_image.proofs.image.Image.len.Goals as goal

pub returns : goal.returns
returns c =
    let e = ap length c.self.view_is in
    let l = joined_length c.self.inside.heads.items c.self.inside.codes c.self.invariant in
    let n = c.len.ensures in
    omega (arith, e, l, n)
