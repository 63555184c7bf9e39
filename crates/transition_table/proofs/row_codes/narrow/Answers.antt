use Rattle.std.proofs.Common.{◌≡◌, ◌∙◌, ◌<◌, ◌≤◌, ◌==◌, ◌&&◌, length, slice_get, slice_set, Some, get_or, arith, sym, ap, subst}
use Rattle.std.specs.Int.{bit_at}
use Rattle.std.proofs.lemmas.List.{length-set}
use Rattle.transition_table.specs.declared.row.Cond.{Cond}
use Rattle.transition_table.proofs.Bits.{set_leaves, passes}
use Rattle.transition_table.proofs.row_codes.narrow.Goals as goal
use Rattle.transition_table.proofs.row_codes.narrow.Goals.{then-var-len, else-var-len}

pub loop-cond-preserved : goal.loop-cond-preserved
loop-cond-preserved c =
    let sets = c.loop-cond.sets in
    let conds = c.args.conds.now in
    let i = c.loop-cond.cond-index in
    let item = c.cond-item.result in
    let own = (get_or conds i item).var in
    let var_is : own ≡ c.from-var.result =
    ap (λ (x : Cond). x.var) (sym c.cond-item.is) ∙ sym c.from-var.ensures in
    let long = c.loop-cond.invariant.long in
    elim c.if-var-len.branch [
      | then-var-len w ↦
          let left = w.get.result.now in
          let next = w.both-left.result in
          let at : slice_get sets own ≡ Some left = ap (slice_get sets) var_is ∙ w.get.ensures in
          let within : own < length sets =
          subst (λ k. k < length sets) (sym var_is) (rw c.len.ensures at w.if-var-len.true) in
          let is : c.if-var-len.sets ≡ slice_set sets own next =
          w.sets-is ∙ w.set.ensures ∙ ap (λ k. slice_set sets k next) (sym var_is) in
          record {
            long = ap length is ∙ length-set sets own next ∙ long;
            left = λ var code inside.
                rw is (set_leaves sets var code i left next conds item c.loop-cond-test.true at
                within
                (w.both-left.ensures code
                ∙ ap (λ (x : Cond). bit_at left code == 1 && bit_at x.codes code == 1)
                c.cond-item.is)
                ∙ c.loop-cond.invariant.left var code inside);
          }
      | else-var-len w ↦
          let past : length sets ≤ own =
          subst (λ k. length sets ≤ k) (sym var_is) (rw c.len.ensures at w.if-var-len.false) in
          record {
            long = ap length w.sets-is ∙ long;
            left = λ var code inside. rw w.sets-is
                (passes sets var code i conds item c.loop-cond-test.true (omega arith) past
                ∙ c.loop-cond.invariant.left var code inside);
          }
    ]
