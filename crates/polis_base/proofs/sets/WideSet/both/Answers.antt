use Rattle.std.proofs.Common.{◌≡◌, ◌∙◌, List, ℕ, length, ap, subst, sym, arith}
use Rattle.polis_base.specs.Sets.{IsBoth}
use Rattle.polis_base.proofs.WideSets.{both_each, members_both}
use Rattle.polis_base.proofs.sets.WideSet.both.Goals as goal

pub returns-clause-each : goal.returns-clause-each
returns-clause-each c =
    let long : length c.args.self.now ≡ 8 = ap length (sym c.self.view_is) ∙ c.self.invariant in
    let done = c.loop-w-test.false in
    subst (λ (b : List ℕ). IsBoth c.args.self.now b c.loop-w.words) c.other.view_is
    (both_each c.args.self.now c.other.inside.words c.loop-w.words c.loop-w.invariant.long
    (λ k i low. c.loop-w.invariant.each k i (omega arith)))

pub returns-clause-members : goal.returns-clause-members
returns-clause-members c =
    let long : length c.args.self.now ≡ 8 = ap length (sym c.self.view_is) ∙ c.self.invariant in
    let done = c.loop-w-test.false in
    members_both c.args.self.now c.args.other.now c.loop-w.words
    (subst (λ (b : List ℕ). IsBoth c.args.self.now b c.loop-w.words) c.other.view_is
    (both_each c.args.self.now c.other.inside.words c.loop-w.words c.loop-w.invariant.long
    (λ k i low. c.loop-w.invariant.each k i (omega arith))))
