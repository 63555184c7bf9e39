use Rattle.std.proofs.Common.{refl, length, set, ap, sym, ◌∙◌, arith}
use Rattle.std.proofs.lemmas.Bool.{lt-ltb, le-ltb}
use Rattle.std.proofs.lemmas.List.{set-get_or}
use Rattle.std.proofs.lemmas.Option.{get_or_from_slice_get}
use Rattle.net_core.specs.inner.Marks.{next_marked}
use Rattle.net_core.proofs.config.tables.pass_item.Goals as goal

pub returns-then-place-len : goal.returns-then-place-len
returns-then-place-len c =
    let place = c.get-place.result in
    let at = get_or_from_slice_get c.args.cursors.now c.args.m place 0 c.get-place.ensures in
    let end = c.len.ensures in
    let below = lt-ltb place (length c.args.trace.now) (omega arith) in
    c.set.ensures ∙ ap (set c.args.cursors.now c.args.m)
    (c.next_read.ensures
    ∙ sym (ap (next_marked c.args.readers.now c.args.trace.now c.args.m) at ∙ rw below refl))

pub returns-else-place-len : goal.returns-else-place-len
returns-else-place-len c =
    let place = c.get-place.result in
    let at = get_or_from_slice_get c.args.cursors.now c.args.m place 0 c.get-place.ensures in
    let end = c.len.ensures in
    let above = le-ltb place (length c.args.trace.now) (omega arith) in
    sym (ap (set c.args.cursors.now c.args.m)
    (ap (next_marked c.args.readers.now c.args.trace.now c.args.m) at ∙ rw above (sym at))
    ∙ set-get_or c.args.cursors.now c.args.m 0)
