use Rattle.std.proofs.Common.{ap, length, arith, ◌≡◌, subst}
use Rattle.std.specs.Prelude.{slice_get, IsSomeAnd}
use Rattle.task_image.specs.Images.{head_of}
use Rattle.task_image.proofs.Joined.{joined_length, joined_head}
use Rattle.task_image.proofs.image.Image.head.Goals as goal

pub index-requires : goal.index-requires
index-requires c =
    let e = ap length c.self.view_is in
    let l = joined_length c.self.inside.heads.items c.self.inside.codes c.self.invariant in
    let lt = c.requires in
    let i = c.self.invariant in
    omega (arith, e, l, lt, i)

pub returns : goal.returns
returns c =
    let e = ap length c.self.view_is in
    let l = joined_length c.self.inside.heads.items c.self.inside.codes c.self.invariant in
    let lt = c.requires in
    let i = c.self.invariant in
    subst (λ i. IsSomeAnd (slice_get i c.args.k) (λ m. head_of m ≡ c.index.result.now))
    c.self.view_is
    (joined_head c.self.inside.heads.items c.self.inside.codes c.args.k c.index.result.now
    c.self.invariant (omega (arith, e, l, lt, i)) c.index.ensures)
