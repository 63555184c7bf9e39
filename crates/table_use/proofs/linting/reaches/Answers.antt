use Rattle.std.proofs.Common.{ℕ, List, [], ◌∷◌, ◌++◌, map, sym, ap, ◌∙◌}
use Rattle.polis_base.specs.Lists.{upto}
use Rattle.table_use.proofs.Repeats.{reach_of}
use Rattle.table_use.proofs.RowBoxes.{own_reach}
use Rattle.table_use.proofs.linting.reaches.Goals as goal
use Rattle.polis_base.proofs.UptoPlaces.{map_upto}

pub loop-r-preserved : goal.loop-r-preserved
loop-r-preserved c =
    let m = c.args.machine.now in
    let r = c.loop-r.r in
    c.in_ok-push.ensures.ok
    ∙ ap (λ (l : List ℕ). l ++ c.reach_of_both.result ∷ []) c.loop-r.invariant
    ∙ ap (λ (n : ℕ). map (reach_of m) (upto r) ++ n ∷ []) (c.reach_of_both.ensures ∙ own_reach m r)
    ∙ sym (map_upto (reach_of m) r)
