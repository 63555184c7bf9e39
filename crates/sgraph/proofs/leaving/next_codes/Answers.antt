use Rattle.std.proofs.Common.{◌≡◌, ◌∙◌, refl, sym, arith, length, slice_index}
use Rattle.sgraph.proofs.NextNodes.{all_codes}
use Rattle.sgraph.proofs.leaving.next_codes.Goals as goal

pub overflow_add-result : goal.overflow_add-result
overflow_add-result c =
    let low = c.first_code-code.ensures.low in
    let kids = c.in-Inner.ensures.kids c.in-Inner.var refl in
    let size = c.item_size-size.ensures in
    let same : slice_index c.args.store.now.sizes c.in-Inner.var ≡ c.item_size-size.result =
    rw c.requires.sizes (sym size) in
    let fits = c.item_size-size.type_inv in
    omega arith

pub returns-then-from-len : goal.returns-then-from-len
returns-then-from-len c =
    let less = c.if-from-len.true in
    let len = c.len.ensures.len in
    let from = c.from.ensures in
    let same : slice_index c.args.store.now.sizes c.in-Inner.var ≡ c.item_size-size.result =
    rw c.requires.sizes (sym c.item_size-size.ensures) in
    all_codes c.args.store.now (length c.args.m.now.vars) c.args.k c.in-Inner.var
    c.item_size-size.result (sym c.in-Inner.ensures.shape) (omega arith)
    (c.in-Inner.ensures.kids c.in-Inner.var refl ∙ same)
