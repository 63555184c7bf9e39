use Rattle.std.proofs.Common.{ap, length, arith, ◌≡◌, subst}
use Rattle.std.specs.Prelude.{slice_get, IsSomeAnd}
use Rattle.task_image.proofs.Joined.{joined_length, joined_code}
use Rattle.task_image.proofs.image.Image.code.Goals as goal

pub get-requires : goal.get-requires
get-requires c =
    let e = ap length c.self.view_is in
    let l = joined_length c.self.inside.heads.items c.self.inside.codes c.self.invariant in
    let lt = c.requires in
    omega (arith, e, l, lt)

pub returns : goal.returns
returns c =
    subst (λ i. IsSomeAnd (slice_get i c.args.k) (λ m. m.code ≡ c.get.result.now)) c.self.view_is
    (joined_code c.self.inside.heads.items c.self.inside.codes c.args.k c.get.result.now
    c.self.invariant c.get.ensures)
