use Rattle.std.proofs.Common.{sym, subst, IfOk}
use Rattle.std.specs.List.{All}
use Rattle.machine_compiler.specs.inner.Shares.{AreRightEach}
use Rattle.machine_compiler.proofs.HasPlaces.{all_next}
use Rattle.machine_compiler.proofs.shares.place_all.Goals as goal

pub loop-share-init : goal.loop-share-init
loop-share-init c = record {
  left = subst (All (λ share. IfOk share (λ made. AreRightEach c.args.net.now made.items)))
      (sym c.into_iter-share-iterator.ensures.into_iter_gives.0) c.requires;
  has = c.in_ok-places.ensures;
}

pub loop-share-preserved : goal.loop-share-preserved
loop-share-preserved c =
    let net = c.args.net.now in
    let next = all_next (λ share. IfOk share (λ made. AreRightEach net made.items)) _
    c.in-Some.share _ c.in-Some.ensures.steps.0 c.loop-share.invariant.left in
    record {
      left = next.1;
      has = c.place_share.ensures net (rw c.in_ok-share.was at next.0) c.loop-share.invariant.has;
    }

pub returns : goal.returns
returns c = c.loop-share.invariant.has
