use Rattle.std.proofs.Common.{◌≡◌, ◌∙◌, sym, arith, slice_index}
use Rattle.decision_diagram.specs.Diagrams.{kids_of}
use Rattle.sgraph.proofs.SentPlaces.{two_items}
use Rattle.sgraph.proofs.building.kid_places.Goals as goal

pub returns-then-item_size-eq2 : goal.returns-then-item_size-eq2
returns-then-item_size-eq2 c =
    let kids = c.shape.ensures.kids c.args.var (c.shape.ensures.shape ∙ c.requires.shape) in
    let two = c.if-item_size-eq2.true in
    let size = c.item_size.ensures in
    let same : slice_index c.args.store.now.sizes c.args.var ≡ c.item_size.result =
    rw c.requires.sizes (sym size) in
    two_items (slice_index c.args.numbers.now) (kids_of c.args.store.now c.args.k) c.two.result
    c.kid_number-first.result c.kid_number-second.result (omega arith) c.kid_number-first.ensures
    c.kid_number-second.ensures c.two.ensures
