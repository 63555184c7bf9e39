use Rattle.std.proofs.Common.{◌≡◌, ◌+◌, ◌-◌, ℕ, Bool, length, arith, subst}
use Rattle.order_sift.specs.inner.Classes.{AreClasses, IsNextItem, fixed_too}
use Rattle.order_sift.proofs.points.freed.Goals as goal

pub returns-clause-classes : goal.returns-clause-classes
returns-clause-classes c =
    let m = c.args.m.now in
    let e : length m.vars + (c.args.item - c.var_count-vars.result) ≡ c.args.item = let a =
    c.if-item-vars.false in let b = c.var_count-vars.ensures.count in omega arith in
    subst (λ (x : ℕ). (fixed : ℕ → Bool) → IsNextItem m fixed x
    → AreClasses m (fixed_too fixed x) c.args.classes.now
    → AreClasses m fixed c.in_ok-made.made) e c.in_ok-made.ensures.classes
