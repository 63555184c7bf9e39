use Rattle.std.proofs.Common.{sym, ◌∙◌, arith}
use Rattle.polis_base.proofs.Scans.{alone_here}
use Rattle.polis_base.proofs.TokensFrom.{fault_on}
use Rattle.polis_base.proofs.lex.after_alone.Goals as goal

pub loop-at-preserved : goal.loop-at-preserved
loop-at-preserved c =
    let text = c.args.text.now in
    let at = c.loop-at.at in
    let below = c.loop-at-test.true in
    let wide = alone_here text at 0 below (sym c.is_alone.ensures ∙ c.if-not-is_alone.false) in
    record {
      after = omega (arith, c.loop-at.invariant.after);
      same = sym (fault_on at 1 text wide below (omega arith)) ∙ c.loop-at.invariant.same;
    }
