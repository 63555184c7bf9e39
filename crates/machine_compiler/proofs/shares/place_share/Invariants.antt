use Rattle.std.specs.Vec.Iter.{into_iter_items}
use Rattle.transition_table.specs.declared.network.Network.{Network}
use Rattle.machine_compiler.specs.inner.Shares.{AreRightEach, HasPlaces}
use Rattle.machine_compiler.proofs.shares.place_share.Given as goal

-- what is left is right, and so is what stands in the places
abbrev pub invariant-loop-one : goal.invariant-loop-one
invariant-loop-one l =
    (net : Network) → AreRightEach net l.fn.share.items → HasPlaces net l.fn.places
    → AreRightEach net (into_iter_items l.one-iterator) × HasPlaces net l.places
