use Rattle.std.proofs.Common.{rules, ◌≡◌, ◌∷◌, [], slice_index, length, refl, sym}
use Rattle.sgraph.proofs.NextNodes.{got}
use Rattle.sgraph.proofs.SentPlaces.{two_items}
use Rattle.sgraph.proofs.places.two_sent.Goals as goal

pub returns : goal.returns
returns c =
    let long : length c.args.places ≡ 2 = search rules in
    two_items (slice_index c.args.table.now) c.args.places
    (c.get.result.now ∷ c.get-2.result.now ∷ []) c.get.result.now c.get-2.result.now long
    (sym (got c.args.table.now (slice_index c.args.places 0) c.get.result.now c.get.ensures))
    (sym (got c.args.table.now (slice_index c.args.places 1) c.get-2.result.now c.get-2.ensures))
    refl
