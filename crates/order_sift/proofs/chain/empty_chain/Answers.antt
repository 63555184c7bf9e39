use Rattle.std.proofs.Common.{◌∙◌, ◌∷◌, ◌++◌, ℕ, List, ap, []}
use Rattle.order_sift.proofs.ChainSteps.{chain_start}
use Rattle.order_sift.proofs.chain.empty_chain.Goals as goal

pub returns : goal.returns
returns c =
    let whole = c.in_ok-whole.whole in
    chain_start c.args.m.now c.args.order.now c.laws_of_levels.ensures.laws c.requires.sure
    c.requires.allowed c.laws_below.ensures whole c.args.snapshots _ _ c.in_ok-whole.ensures
    c.requires.snapshots
    (c.in_ok-push.ensures.ok ∙ ap (λ (xs : List (List ℕ)). xs ++ whole ∷ [])
    c.new-classes.ensures)
    (c.in_ok-push-2.ensures.ok ∙ ap (λ (xs : List ℕ). xs ++ 0 ∷ []) c.new-backs.ensures)
