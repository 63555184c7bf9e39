use Rattle.std.proofs.Common.{◌≡◌, ◌+◌, ◌-◌, ℕ, length, arith, subst}
use Rattle.order_sift.specs.inner.Classes.{AreMarks}
use Rattle.order_sift.proofs.prepare.marks_of.Goals as goal

pub returns : goal.returns
returns c =
    let m = c.args.m.now in
    let vars = c.len-vars.ensures in
    let high = c.if-item-vars.false in
    let e : length m.vars + (c.args.item - c.len-vars.result) ≡ c.args.item = omega arith in
    subst (λ (x : ℕ). AreMarks m x c.in_ok-marks.marks) e c.in_ok-marks.ensures
