use Rattle.std.proofs.Common.{◌≡◌, ◌<◌, ◌∙◌, ℕ, slice_get, Some, sym, subst, arith}
use Rattle.std.proofs.lemmas.Option.{same_Some}
use Rattle.transition_table.specs.declared.row.Row.{Row}
use Rattle.determinism.specs.declared.marks.Marks.{Marks}
use Rattle.determinism.specs.inner.Marks.{IsMarked}
use Rattle.transition_table.proofs.Pushed.{long_pushed, found_pushed}
use Rattle.determinism.proofs.marks.marks_table.Goals as goal

pub get-requires : goal.get-requires
get-requires c = subst (λ n. c.loop-r.r < n) c.len-r-end.ensures c.loop-r-test.true

pub of_row-requires : goal.of_row-requires
of_row-requires c =
    subst (λ n. c.loop-r.r < n) (c.len-r-end.ensures ∙ sym c.requires.long) c.loop-r-test.true

pub marks_of-requires : goal.marks_of-requires
marks_of-requires c =
    c.requires.each c.loop-r.r c.get.result.now c.of_row.result.now c.get.ensures
    c.of_row.ensures

pub loop-r-preserved : goal.loop-r-preserved
loop-r-preserved c =
    let r = c.loop-r.r in
    let machine = c.args.machine.now in
    let made = c.loop-r.made in
    let new = c.push.new.self in
    let marks = c.marks_of.result in
    let is = c.in_ok-push.ensures.ok in
    let long = c.loop-r.invariant.long in
    let each = found_pushed
    (λ (k : ℕ) (marks : Marks). (row : Row) → slice_get machine.rows k ≡ Some row
    → IsMarked machine row marks) made new marks r is long
    (λ k marks at row in_row. c.loop-r.invariant.each k row marks in_row at)
    (λ row in_row. subst (λ row. IsMarked machine row marks)
    (same_Some c.get.result.now row (sym c.get.ensures ∙ in_row)) c.marks_of.ensures) in
    record {
      long = long_pushed made new marks r is long;
      each = λ k row marks in_row at. each k marks at row in_row;
    }

pub returns : goal.returns
returns c =
    let end = c.len-r-end.ensures in
    let test = c.loop-r-test.false in
    let most = c.loop-r.auto.r-end in
    let long = c.loop-r.invariant.long in
    record {
      long = omega arith;
      each = c.loop-r.invariant.each;
    }
