use Rattle.std.proofs.Common.{◌≡◌, slice_index, arith, sym, subst, inl, inr}
use Rattle.std.proofs.lemmas.Option.{get_or_from_slice_get}
use Rattle.std.proofs.lemmas.Bool.Decides.{eqb_tells}
use Rattle.determinism.proofs.Befores.{before_all, before_at}
use Rattle.determinism.proofs.conflict.stands_before.Goals as goal

pub returns-then-code-other-clause-before : goal.returns-then-code-other-clause-before
returns-then-code-other-clause-before c = λ h.
    let k = c.loop-k.k in
    let code = get_or_from_slice_get c.args.codes.now k c.get-code.result.now 0
    c.get-code.ensures in
    let other = get_or_from_slice_get c.args.others.now k c.get-other.result.now 0
    c.get-other.ensures in
    let end = c.len-k-end.ensures in
    let below = c.loop-k-test.true in
    let less = c.if-code-other.true in
    before_at c.args.codes.now c.args.others.now k c.requires (omega arith)
    (λ j within. let same = c.loop-k.invariant j within in omega arith) (omega arith)

pub returns-then-other-code-clause-after : goal.returns-then-other-code-clause-after
returns-then-other-code-clause-after c = λ h.
    let k = c.loop-k.k in
    let code = get_or_from_slice_get c.args.codes.now k c.get-code.result.now 0
    c.get-code.ensures in
    let other = get_or_from_slice_get c.args.others.now k c.get-other.result.now 0
    c.get-other.ensures in
    let end = c.len-k-end.ensures in
    let below = c.loop-k-test.true in
    let less = c.if-other-code.true in
    let long = c.requires in
    before_at c.args.others.now c.args.codes.now k (sym c.requires) (omega arith)
    (λ j within. let same = c.loop-k.invariant j within in omega arith) (omega arith)

pub loop-k-preserved : goal.loop-k-preserved
loop-k-preserved c = λ j within.
    let k = c.loop-k.k in
    let code = get_or_from_slice_get c.args.codes.now k c.get-code.result.now 0
    c.get-code.ensures in
    let other = get_or_from_slice_get c.args.others.now k c.get-other.result.now 0
    c.get-other.ensures in
    let up = c.if-code-other.false in
    let down = c.if-other-code.false in
    elim (eqb_tells j k) [
      | inl here ↦ subst (λ i. slice_index c.args.codes.now i ≡ slice_index c.args.others.now i)
          (sym here.1) (omega arith)
      | inr apart ↦ c.loop-k.invariant j (let differ = apart.1 in omega arith)
    ]

pub returns-clause-before : goal.returns-clause-before
returns-clause-before c = λ h.
    let end = c.len-k-end.ensures in
    let all = c.loop-k-test.false in
    before_all c.args.codes.now c.args.others.now c.requires
    (λ j within. let same = c.loop-k.invariant j (omega arith) in omega arith)
