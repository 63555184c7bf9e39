use Rattle.std.proofs.Common.{ℕ, ◌+◌, List, sym, subst, arith}
use Rattle.table_use.proofs.EqualOutcomes.{AreFirstsBefore, all_firsts, one_first}
use Rattle.table_use.proofs.keys.firsts_of.Goals as goal

pub loop-k-preserved : goal.loop-k-preserved
loop-k-preserved c =
    let outcomes = c.args.outcomes.now in
    let k = c.loop-k.k in
    subst (λ (l : List ℕ). AreFirstsBefore outcomes (k + 1) l c.first_of.new.known)
    (sym c.in_ok-push.ensures.ok)
    (one_first outcomes k c.in_ok-first_of.field-0 c.get.result.now c.loop-k.firsts c.loop-k.known
    c.first_of.new.known c.loop-k.invariant c.get.ensures c.in_ok-first_of.ensures)

pub returns : goal.returns
returns c =
    let end = c.len-k-end.ensures in
    let off = c.loop-k-test.false in
    all_firsts c.args.outcomes.now c.loop-k.k c.loop-k.firsts c.loop-k.known (omega arith)
    c.loop-k.invariant
