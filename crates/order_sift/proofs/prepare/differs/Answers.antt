use Rattle.std.proofs.Common.{◌≡◌, ◌∙◌, ◌+◌, ◌-◌, ◌*◌, ◌==◌, not, slice_index, sym, ap}
use Rattle.std.proofs.lemmas.Bool.{ne_eqb}
use Rattle.polis_base.specs.Lists.{upto}
use Rattle.order_sift.proofs.Different.{any_item}
use Rattle.order_sift.proofs.prepare.differs.Goals as goal
use Rattle.polis_base.proofs.UptoPlaces.{get_upto}

pub returns-then-outcomes-neighbour : goal.returns-then-outcomes-neighbour
returns-then-outcomes-neighbour c =
    let outcomes = c.args.outcomes.now in
    let i = c.args.i in
    let own = slice_index c.args.codes.now i in
    let stride = c.args.stride in
    let code = c.loop-code.code in
    let at : slice_index outcomes c.neighbour.result
    ≡ slice_index outcomes (i + code * stride - own * stride) =
    ap (slice_index outcomes) c.neighbour.ensures in
    sym (any_item (λ k.
    not (slice_index outcomes (i + k * stride - own * stride) == slice_index outcomes i))
    (upto c.args.size) code code (get_upto c.args.size code c.loop-code-test.true)
    (ap not (ne_eqb (slice_index outcomes (i + code * stride - own * stride))
    (slice_index outcomes i) (λ e. c.if-outcomes-neighbour.true (at ∙ e)))))
