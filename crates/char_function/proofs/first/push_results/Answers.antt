use Rattle.std.proofs.Common.{◌≡◌, ◌∙◌, ◌+◌, ◌++◌, ◌∷◌, [], ◌==◌, ℕ, Bool, List, sym, ap}
use Rattle.std.proofs.lemmas.Bool.{eq-eqb, ne_eqb}
use Rattle.char_function.specs.Orders.{reach, reach_at}
use Rattle.char_function.proofs.MoreResults.{behind_on, behind_off}
use Rattle.decision_diagram.proofs.ListItems.{read}
use Rattle.char_function.proofs.first.push_results.Goals as goal
use Rattle.char_function.proofs.first.push_results.Goals.{then-reach-k+in_ok-push, else-reach-k}

pub loop-y-preserved : goal.loop-y-preserved
loop-y-preserved c =
    let y = c.loop-y.y in
    let n = c.args.vars in
    let sup = c.args.supports.now in
    let p : ℕ → Bool = λ y. reach_at sup y == c.args.k in
    let old = c.args.list.now in
    let at : reach_at sup y ≡ c.reach.result =
    ap reach (read sup y c.get.result.now [] c.get.ensures ∙ sym c.as_slice.ensures)
    ∙ sym c.reach.ensures in
    elim c.if-reach-k.branch [
      | then-reach-k+in_ok-push w ↦
          w.list-is ∙ w.in_ok-push.ensures.ok
          ∙ ap (λ (xs : List ℕ). xs ++ (n + y) ∷ []) c.loop-y.invariant
          ∙ sym (behind_on old n y p (eq-eqb (reach_at sup y) c.args.k (at ∙ w.if-reach-k.true)))
      | else-reach-k w ↦
          w.list-is ∙ c.loop-y.invariant
          ∙ sym (behind_off old n y p
          (ne_eqb (reach_at sup y) c.args.k (λ same. w.if-reach-k.false (sym at ∙ same))))
    ]
