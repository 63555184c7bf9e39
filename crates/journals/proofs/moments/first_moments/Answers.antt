use Rattle.std.proofs.Common.{[], ◌∷◌, ◌++◌, List, ap, ◌∙◌}
use Rattle.transition_table.specs.declared.snapshot.Snapshot.{Snapshot}
use Rattle.journals.proofs.MomentsAfter.{first_snap, moments_more}
use Rattle.journals.proofs.moments.first_moments.Goals as goal

pub loop-m-preserved : goal.loop-m-preserved
loop-m-preserved c =
    let s : Snapshot = c.in_ok-first_moment.field-0 in
    let is =
    first_snap c.args.net.now c.loop-m.m c.get.result.now s c.get.ensures
    c.in_ok-first_moment.ensures in
    c.in_ok-push.ensures.ok ∙ ap (λ (l : List Snapshot). l ++ s ∷ []) c.loop-m.invariant
    ∙ moments_more c.args.net.now [] c.loop-m.m s is
