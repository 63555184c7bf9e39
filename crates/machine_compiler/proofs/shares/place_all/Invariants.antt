use Rattle.std.proofs.Common.{IfOk}
use Rattle.std.specs.List.{All}
use Rattle.std.specs.Vec.Iter.{into_iter_items}
use Rattle.machine_compiler.specs.inner.Shares.{AreRightEach, HasPlaces}
use Rattle.machine_compiler.proofs.shares.place_all.Given as goal

-- what is left is right, and so is what stands in the places
abbrev pub invariant-loop-share : goal.invariant-loop-share
invariant-loop-share l = record {
  left : All (λ share. IfOk share (λ made. AreRightEach l.net made.items))
      (into_iter_items l.share-iterator);
  has : HasPlaces l.net l.places;
}
