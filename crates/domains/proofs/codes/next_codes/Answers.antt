use Rattle.std.proofs.Common.{arith, refl}
use Rattle.domains.proofs.Ranks.{rank_greatest, rank_stepped, fits_stepped, next_below, not_greatest, size_few}
use Rattle.domains.proofs.codes.next_codes.Goals as goal

pub step-requires-clause-room : goal.step-requires-clause-room
step-requires-clause-room c =
    let x = c.in-Some.ensures in
    omega (arith, x.below, size_few c.args.vars.now c.in-Some.k x.sizes)

pub returns-in-Some-clause-fits : goal.returns-in-Some-clause-fits
returns-in-Some-clause-fits c =
    let x = c.in-Some.ensures in
    rw c.step.ensures
    (fits_stepped c.args.vars.now c.args.codes.now c.in-Some.k x.sizes c.requires x.place
    x.below)

pub returns-in-Some-clause-next : goal.returns-in-Some-clause-next
returns-in-Some-clause-next c h =
    let x = c.in-Some.ensures in
    rw c.step.ensures
    (rank_stepped c.args.vars.now c.args.codes.now c.in-Some.k c.requires x.place x.after)

pub returns-in-Some-clause-last : goal.returns-in-Some-clause-last
returns-in-Some-clause-last c =
    let x = c.in-Some.ensures in (
      λ h. next_below c.args.vars.now c.args.codes.now c.in-Some.k x.sizes c.requires
          x.place x.below
          x.after,
      λ h. refl,
    )

pub returns-in-Some-clause-greatest : goal.returns-in-Some-clause-greatest
returns-in-Some-clause-greatest c =
    let x = c.in-Some.ensures in
    not_greatest c.args.vars.now c.args.codes.now
    (next_below c.args.vars.now c.args.codes.now c.in-Some.k x.sizes c.requires x.place x.below
    x.after)

pub returns-in-None-clause-last : goal.returns-in-None-clause-last
returns-in-None-clause-last c =
    let e = rank_greatest c.args.vars.now c.args.codes.now c.in-None.ensures.none in
    (λ h. cc, λ h. absurd (omega arith))
