use Rattle.std.proofs.Common.{sym, subst}
use Rattle.machine_compiler.specs.inner.Shares.{AreRightEach}
use Rattle.machine_compiler.proofs.HasPlaces.{share_next, placed}
use Rattle.machine_compiler.proofs.shares.place_share.Goals as goal

pub loop-one-init : goal.loop-one-init
loop-one-init c = λ net share has. (
  subst (AreRightEach net) (sym c.into_iter-one-iterator.ensures.into_iter_gives.0) share,
  has,
)

pub loop-one-preserved-then-number-len : goal.loop-one-preserved-then-number-len
loop-one-preserved-then-number-len c = λ net share has.
    let so_far = c.loop-one.invariant net share has in
    let one = c.in-Some.one in
    let next = share_next net _ one _ c.in-Some.ensures.steps.0 so_far.0 in (
      next.1,
      placed net c.loop-one.places c.set.new.self one.number one.compiled so_far.1
          c.set.ensures next.0,
    )

pub loop-one-preserved : goal.loop-one-preserved
loop-one-preserved c = λ net share has.
    let so_far = c.loop-one.invariant net share has in
    ((share_next net _ c.in-Some.one _ c.in-Some.ensures.steps.0 so_far.0).1, so_far.1)

pub returns : goal.returns
returns c = λ net share has. (c.loop-one.invariant net share has).1
