use Rattle.std.proofs.Common.{◌≡◌, ◌<◌, ◌&&◌, ◌||◌, ◌==◌, ◌∙◌, ℕ, List, Bool, true, false, length, slice_get, Some, arith, refl, sym, ap, subst}
use Rattle.std.specs.Int.{bit_at}
use Rattle.std.proofs.lemmas.Option.{get_or_from_slice_get, slice_get_within}
use Rattle.polis_base.specs.Sets.{has_member}
use Rattle.polis_base.proofs.Places.{some_at}
use Rattle.transition_table.specs.RowCodes.{AreRowCodes, row_allows}
use Rattle.transition_table.specs.declared.machine.Machine.{Machine}
use Rattle.transition_table.specs.declared.row.Row.{Row}
use Rattle.outcome_table.proofs.RowSets.{row_added}
use Rattle.outcome_table.proofs.allowing.rows_with.Goals as goal
use Rattle.outcome_table.proofs.allowing.rows_with.Goals.{then-has, else-has}

here : (m : Machine) (codes : List (List ℕ)) (r end : ℕ) → r < end → end ≡ length m.rows
    → r < length m.rows
here m codes r end low is = omega arith

-- what the row's set says of the code
allows : (m : Machine) (codes : List (List ℕ)) (r var code set : ℕ) (sets : List ℕ) (row : Row)
    → AreRowCodes m codes → var < length m.vars → slice_get m.rows r ≡ Some row
    → slice_get codes r ≡ Some sets → slice_get sets var ≡ Some set
    → (bit_at set code == 1) ≡ row_allows m.vars row var code
allows m codes r var code set sets row are within at_row at_sets at =
    ap (λ n. bit_at n code == 1) (sym (get_or_from_slice_get sets var set 0 at))
    ∙ (are.each r row sets at_row at_sets).each var within code

pub of_row-requires : goal.of_row-requires
of_row-requires c =
    let low = here c.args.machine.now c.args.codes.now c.loop-r.r c.row_count-r-end.result
    c.loop-r-test.true c.row_count-r-end.ensures.count in
    subst (λ (k : ℕ). k < length c.args.codes.now) (sym c.from.ensures)
    (subst (λ (n : ℕ). c.loop-r.r < n) (sym c.requires.codes.long) low)

pub get-allowed-requires : goal.get-allowed-requires
get-allowed-requires c =
    let m = c.args.machine.now in
    let low = here m c.args.codes.now c.loop-r.r c.row_count-r-end.result
    c.loop-r-test.true c.row_count-r-end.ensures.count in
    let row = some_at m.rows c.loop-r.r low in
    let long = (c.requires.codes.each c.loop-r.r row.0 c.of_row.result.now row.1
    (rw c.from.ensures at c.of_row.ensures)).long in
    subst (λ (k : ℕ). k < length c.of_row.result.now) (sym c.from-in-loop-r.ensures)
    (subst (λ (n : ℕ). c.args.var < n) (sym long) c.requires.var)

pub loop-r-preserved : goal.loop-r-preserved
loop-r-preserved c =
    let m = c.args.machine.now in
    let r = c.loop-r.r in
    let var = c.args.var in
    let code = c.args.code in
    let old = c.loop-r.set in
    let low = here m c.args.codes.now r c.row_count-r-end.result c.loop-r-test.true
    c.row_count-r-end.ensures.count in
    let found = some_at m.rows r low in
    let row = found.0 in
    let is : c.has.result ≡ row_allows m.vars row var code =
    c.has.ensures
    ∙ ap (λ k. bit_at c.get-allowed.result.now k == 1) c.from-in-loop-r-2.ensures
    ∙ allows m c.args.codes.now r var code c.get-allowed.result.now c.of_row.result.now row
    c.requires.codes
    c.requires.var found.1 (rw c.from.ensures at c.of_row.ensures)
    (rw c.from-in-loop-r.ensures at c.get-allowed.ensures) in
    elim c.if-has.branch [
      | then-has w ↦
          let held : row_allows m.vars row var code ≡ true = sym is ∙ w.if-has.true in
          row_added m var code r row old c.if-has.set c.loop-r.invariant found.1
          (λ k. ap (λ (s : List ℕ). has_member s k) w.set-is ∙ w.insert.ensures k
          ∙ ap (λ b. b || has_member old k) (sym (and_true (k == r))
          ∙ ap (λ b. k == r && b) (sym held)))
      | else-has w ↦
          let held : row_allows m.vars row var code ≡ false = sym is ∙ w.if-has.false in
          row_added m var code r row old c.if-has.set c.loop-r.invariant found.1
          (λ k. ap (λ (s : List ℕ). has_member s k) w.set-is
          ∙ ap (λ b. b || has_member old k) (sym (and_false (k == r))
          ∙ ap (λ b. k == r && b) (sym held)))
    ]
  where
    and_true : (b : Bool) → (b && true) ≡ b
    and_true true = refl
    and_true false = refl

    and_false : (b : Bool) → (b && false) ≡ false
    and_false true = refl
    and_false false = refl

pub returns : goal.returns
returns c =
    record {
      each = λ r row at.
          let inside = slice_get_within c.args.machine.now.rows r row at in
          let count = c.row_count-r-end.ensures.count in
          let done = c.loop-r-test.false in
          c.loop-r.invariant.each r row (omega arith) at;
    }
