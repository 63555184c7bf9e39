use Rattle.std.proofs.Common.{◌≡◌, ◌∙◌, ◌+◌, ◌<◌, ◌++◌, ◌∷◌, [], ℕ, true, List, length, slice_index, arith, sym, ap}
use Rattle.std.proofs.lemmas.Bool.{le-leb, lt-leb}
use Rattle.std.proofs.lemmas.Option.{get_or_from_slice_get}
use Rattle.domains.specs.Tables.{product}
use Rattle.order_sift.specs.inner.Classes.{matters}
use Rattle.order_sift.proofs.DifferingNumbers.{passes_more, passes_not}
use Rattle.order_sift.proofs.TableOutcomes.{matters_result}
use Rattle.order_sift.proofs.prepare.marks_of_result.Goals as goal
use Rattle.order_sift.proofs.prepare.marks_of_result.Goals.{then-size-ge2+in_ok-push, else-size-ge2}

pub loop-i-preserved : goal.loop-i-preserved
loop-i-preserved c =
    let m = c.args.m.now in
    let y = c.args.y in
    let i = c.loop-i.i in
    let inv = c.loop-i.invariant in
    let li : i < product m.vars = let a = c.loop-i-test.true in let b = c.requires.snapshots in
    omega arith in
    let size : c.get-size.result.now ≡ slice_index m.results y =
    sym (get_or_from_slice_get m.results y c.get-size.result.now 0 c.get-size.ensures) in
    let mark = sym (matters_result m c.laws_below.ensures y i c.get-size.result.now c.requires.result
    li size) in
    elim c.if-size-ge2.branch [
      | then-size-ge2+in_ok-push w ↦
          w.marks-is ∙ w.in_ok-push.ensures.ok ∙ ap (λ (xs : List ℕ). xs ++ i ∷ []) inv
          ∙ sym (passes_more (matters m (length m.vars + y)) i true
          (mark ∙ le-leb 2 c.get-size.result.now w.if-size-ge2.true))
      | else-size-ge2 w ↦
          w.marks-is ∙ inv ∙ sym (passes_not (matters m (length m.vars + y)) i
          (mark ∙ lt-leb 2 c.get-size.result.now (let h = w.if-size-ge2.false in omega arith)))
    ]
