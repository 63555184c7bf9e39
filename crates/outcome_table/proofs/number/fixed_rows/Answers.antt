use Rattle.std.proofs.Common.{◌≡◌, ◌∙◌, ◌++◌, ◌∷◌, [], Bool, List, map, take, get_or, ap, sym}
use Rattle.std.specs.List.{list_all}
use Rattle.std.proofs.lemmas.List.{map-append, take_more}
use Rattle.std.proofs.lemmas.Option.{get_or_from_slice_get, slice_get_within}
use Rattle.transition_table.specs.declared.row.Row.{Row}
use Rattle.outcome_table.specs.inner.Numbering.{is_fixed}
use Rattle.outcome_table.proofs.number.fixed_rows.Goals as goal

pub loop-r-preserved : goal.loop-r-preserved
loop-r-preserved c =
    let rows = c.args.m.now.rows in
    let row : Row = c.get.result.now in
    let f : Row → Bool = λ (row : Row). list_all is_fixed row.acts in
    let k = c.loop-r.r in
    let same : get_or rows k row ≡ row = get_or_from_slice_get rows k row row c.get.ensures in
    c.in_ok-push.ensures.ok
    ∙ ap (λ (xs : List Bool). xs ++ c.are_codes.result ∷ []) c.loop-r.invariant
    ∙ ap (λ (b : Bool). map f (take k rows) ++ b ∷ [])
    (rw c.as_slice.ensures at c.are_codes.ensures)
    ∙ sym (ap (map f) (take_more rows k row (slice_get_within rows k row c.get.ensures)
    ∙ ap (λ (r : Row). take k rows ++ r ∷ []) same) ∙ map-append f (take k rows) (row ∷ []))
