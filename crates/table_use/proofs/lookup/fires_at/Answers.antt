use Rattle.std.proofs.Common.{slice_get, false, sym, ap, ◌∙◌}
use Rattle.std.proofs.lemmas.Option.{get_or_from_slice_get}
use Rattle.table_use.proofs.lookup.fires_at.Goals as goal

pub get-requires-2 : goal.get-requires-2
get-requires-2 c = c.args.lookup.now.are_keys.fires_within c.args.n c.get.result.now c.get.ensures

pub returns : goal.returns
returns c =
    let lookup = c.args.lookup.now in
    λ s fit number.
    sym (get_or_from_slice_get lookup.keys.now.fires c.get.result.now c.get-2.result.now false
    c.get-2.ensures)
    ∙ lookup.are_keys.fires s c.get.result.now fit
    (ap (slice_get lookup.results.now.numbers) number ∙ c.get.ensures)
