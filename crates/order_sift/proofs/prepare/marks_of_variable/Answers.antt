use Rattle.std.proofs.Common.{◌≡◌, ◌∙◌, ◌+◌, ◌<◌, ◌++◌, ◌∷◌, [], ℕ, true, List, length, get_or, slice_index, arith, sym, ap, subst}
use Rattle.std.proofs.lemmas.Option.{get_or_from_slice_get}
use Rattle.domains.specs.Tables.{product}
use Rattle.order_sift.specs.inner.Classes.{snapshot_at, matters}
use Rattle.order_sift.specs.inner.Points.{AreOutcomes}
use Rattle.order_sift.proofs.DifferingNumbers.{passes_more, passes_not}
use Rattle.order_sift.proofs.TableOutcomes.{matters_var}
use Rattle.order_sift.proofs.AreClasses.{within_of}
use Rattle.order_sift.proofs.prepare.marks_of_variable.Goals as goal
use Rattle.order_sift.proofs.prepare.marks_of_variable.Goals.{then-differs+in_ok-push, else-differs}
use Rattle.domains.proofs.FittingCodes.{product_after}

pub lists_from-stride-requires-clause-few : goal.lists_from-stride-requires-clause-few
lists_from-stride-requires-clause-few c =
    let d = product_after c.args.m.now.vars (c.args.v + 1) c.var_count.ensures.sizes in
    let few = c.requires.few in
    omega arith

pub differs-requires-clause-few : goal.differs-requires-clause-few
differs-requires-clause-few c =
    let long = ap (λ (xs : List ℕ). length xs) c.as_slice-numbers.ensures ∙ c.requires.outcomes.long in
    let few = c.requires.few in
    omega arith

pub differs-requires-clause-stride : goal.differs-requires-clause-stride
differs-requires-clause-stride c =
    let d = product_after c.args.m.now.vars (c.args.v + 1) c.var_count.ensures.sizes in
    let is = c.lists_from-stride.ensures in
    let few = c.requires.few in
    omega arith

pub differs-requires-clause-long : goal.differs-requires-clause-long
differs-requires-clause-long c =
    let codes = c.args.codes.now in
    let v = c.args.v in
    let column : c.as_slice-column.result.now ≡ get_or codes v [] =
    c.as_slice-column.ensures
    ∙ sym (get_or_from_slice_get codes v c.get.result.now [] c.get.ensures) in
    ap (λ (xs : List ℕ). length xs) column ∙ c.requires.variables.long v c.requires.var
    ∙ sym c.requires.outcomes.long ∙ ap (λ (xs : List ℕ). length xs) (sym c.as_slice-numbers.ensures)

pub differs-requires-clause-within : goal.differs-requires-clause-within
differs-requires-clause-within c code lc =
    let m = c.args.m.now in
    let v = c.args.v in
    let codes = c.args.codes.now in
    let column : get_or codes v [] ≡ c.as_slice-column.result.now =
    get_or_from_slice_get codes v c.get.result.now [] c.get.ensures
    ∙ sym c.as_slice-column.ensures in
    let size : slice_index m.vars v ≡ c.get-size.result.now =
    get_or_from_slice_get m.vars v c.get-size.result.now 0 c.get-size.ensures in
    within_of m c.laws_below.ensures codes c.requires.variables v code c.lists_from-stride.result
    c.as_slice-column.result.now c.requires.var (omega arith) c.lists_from-stride.ensures column

pub loop-i-preserved : goal.loop-i-preserved
loop-i-preserved c =
    let m = c.args.m.now in
    let v = c.args.v in
    let i = c.loop-i.i in
    let codes = c.args.codes.now in
    let inv = c.loop-i.invariant in
    let li : i < product m.vars = let a = c.loop-i-test.true in
    let b = ap (λ (xs : List ℕ). length xs) c.as_slice-numbers.ensures in
    let d = c.requires.outcomes.long in omega arith in
    let column : c.as_slice-column.result.now ≡ get_or codes v [] =
    c.as_slice-column.ensures
    ∙ sym (get_or_from_slice_get codes v c.get.result.now [] c.get.ensures) in
    let code : slice_index c.as_slice-column.result.now i ≡ slice_index (snapshot_at m i) v =
    ap (λ (xs : List ℕ). slice_index xs i) column
    ∙ c.requires.variables.code v i c.requires.var li in
    let size : c.get-size.result.now ≡ slice_index m.vars v =
    sym (get_or_from_slice_get m.vars v c.get-size.result.now 0 c.get-size.ensures) in
    let are = subst (AreOutcomes m) (sym c.as_slice-numbers.ensures) c.requires.outcomes in
    let mark : matters m v i ≡ c.differs.result =
    sym (c.differs.ensures ∙ matters_var m c.laws_below.ensures c.as_slice-numbers.result.now
    c.as_slice-column.result.now v i are c.requires.var li code c.lists_from-stride.result
    c.lists_from-stride.ensures c.get-size.result.now size) in
    elim c.if-differs.branch [
      | then-differs+in_ok-push w ↦
          w.marks-is ∙ w.in_ok-push.ensures.ok ∙ ap (λ (xs : List ℕ). xs ++ i ∷ []) inv
          ∙ sym (passes_more (matters m v) i true (mark ∙ w.if-differs.true))
      | else-differs w ↦
          w.marks-is ∙ inv ∙ sym (passes_not (matters m v) i (mark ∙ w.if-differs.false))
    ]
