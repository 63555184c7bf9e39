use Rattle.std.proofs.Common.{Bool, List, ℕ, length, ap, sym, subst, ◌∙◌}
use Rattle.determinism.specs.inner.Pairs.{IsBest}
use Rattle.determinism.proofs.Bests.{best_stays, best_moves}
use Rattle.determinism.proofs.conflict.improve.Goals as goal
use Rattle.determinism.proofs.conflict.improve.Goals.{else-found-via-then-found+else-stands_before, else-found-via-else-found}
use Rattle.polis_base.proofs.Bools.{not_both}

pub returns-then-stands_before-clause-best : goal.returns-then-stands_before-clause-best
returns-then-stands_before-clause-best c =
    let so_far = subst (λ (b : Bool). IsBest c.args.pair.now c.args.y b c.args.best.now.codes)
    c.if-found.true c.requires.best in
    best_stays c.args.pair.now c.args.y c.args.best.now.codes c.least_difference.new.s.codes so_far
    (c.least_difference.ensures.some c.if-not-least_difference.false)
    (c.stands_before.ensures.before c.if-stands_before.true)

pub returns-clause-best : goal.returns-clause-best
returns-clause-best c =
    rw c.copy_from.ensures
    (best_moves c.args.pair.now c.args.y c.args.found c.args.best.now.codes
    c.least_difference.new.s.codes c.requires.number c.requires.best
    (c.least_difference.ensures.some c.if-not-least_difference.false)
    (λ found.
    elim c.else-found.branch [
      | else-found-via-then-found+else-stands_before w ↦ w.stands_before.ensures.after
          w.if-stands_before.false
      | else-found-via-else-found w ↦ absurd (not_both c.args.found found w.if-found.false)
    ]))

pub least_difference-requires : goal.least_difference-requires
least_difference-requires c = record { long = c.requires.long }

pub returns-then-not-least_difference-clause-long :
    goal.returns-then-not-least_difference-clause-long
returns-then-not-least_difference-clause-long c = c.least_difference.ensures.long

pub returns-then-not-least_difference-clause-best_long :
    goal.returns-then-not-least_difference-clause-best_long
returns-then-not-least_difference-clause-best_long c = c.requires.best_long

pub stands_before-requires : goal.stands_before-requires
stands_before-requires c = c.requires.best_long ∙ sym c.least_difference.ensures.long

pub returns-then-stands_before-clause-long : goal.returns-then-stands_before-clause-long
returns-then-stands_before-clause-long c = c.least_difference.ensures.long

pub returns-then-stands_before-clause-best_long : goal.returns-then-stands_before-clause-best_long
returns-then-stands_before-clause-best_long c = c.requires.best_long

pub copy_from-requires : goal.copy_from-requires
copy_from-requires c = c.requires.best_long ∙ sym c.least_difference.ensures.long

pub returns-clause-long : goal.returns-clause-long
returns-clause-long c = c.least_difference.ensures.long

pub returns-clause-best_long : goal.returns-clause-best_long
returns-clause-best_long c =
    ap (λ (l : List ℕ). length l) c.copy_from.ensures ∙ c.least_difference.ensures.long
