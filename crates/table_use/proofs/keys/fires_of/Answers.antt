use Rattle.std.proofs.Common.{Bool, List, ◌++◌, ◌∷◌, [], map, take, sym, ap, ◌∙◌}
use Rattle.table_use.specs.inner.Firsts.{is_go}
use Rattle.table_use.proofs.Pushed.{mapped_more}
use Rattle.table_use.proofs.keys.fires_of.Goals as goal

pub loop-k-preserved : goal.loop-k-preserved
loop-k-preserved c =
    let outcomes = c.args.outcomes.now in
    let k = c.loop-k.k in
    c.in_ok-push.ensures.ok
    ∙ ap (λ (l : List Bool). l ++ c.goes.result ∷ []) c.loop-k.invariant
    ∙ ap (λ (b : Bool). map is_go (take k outcomes) ++ b ∷ []) c.goes.ensures
    ∙ sym (mapped_more is_go outcomes k c.get.result.now c.get.ensures)
