use Rattle.std.proofs.Common.{◌≡◌, ℕ, List, slice_get, Some, sym, subst, ◌∙◌}
use Rattle.std.proofs.lemmas.Option.{same_Some}
use Rattle.transition_table.specs.declared.row.Row.{Row}
use Rattle.transition_table.specs.RowCodes.{AreSetsOf}
use Rattle.transition_table.proofs.Pushed.{long_pushed, found_pushed}
use Rattle.transition_table.proofs.row_codes.table_of.Goals as goal

pub loop-r-preserved : goal.loop-r-preserved
loop-r-preserved c =
    let m = c.args.machine.now in
    let r = c.loop-r.r in
    let table = c.loop-r.table in
    let new = c.push.new.self in
    let sets = c.in_ok-sets_of.field-0 in
    let is = c.in_ok-push.ensures.ok in
    let long = c.loop-r.invariant.long in
    let each = found_pushed
    (λ (k : ℕ) (sets : List ℕ). (row : Row) → slice_get m.rows k ≡ Some row
    → AreSetsOf m.vars row sets) table new sets r is long
    (λ k sets at row in_row. c.loop-r.invariant.each k row sets in_row at)
    (λ row in_row. subst (λ (row : Row). AreSetsOf m.vars row sets)
    (same_Some c.get.result.now row (sym c.get.ensures ∙ in_row)) c.in_ok-sets_of.ensures) in
    record {
      long = long_pushed table new sets r is long;
      each = λ k row sets in_row at. each k sets at row in_row;
    }
