use Rattle.std.proofs.Common.{◌≡◌, ◌+◌, List, [], ◌∷◌, true, Ok, length, length-append, refl, ap, sym, subst, ◌∙◌, arith}
use Rattle.journals.specs.declared.entry.Entry.{Entry}
use Rattle.net_core.specs.Moments.{Moment}
use Rattle.run_shuffle.specs.Shuffles.{IsDrawn}
use Rattle.polis_base.specs.Draws.{next}
use Rattle.polis_base.proofs.DrawsAfter.{after_none, after_one}
use Rattle.run_shuffle.proofs.DrawnOn.{drawn_further}
use Rattle.run_shuffle.proofs.run.run.Goals as goal

pub advance-requires-clause-network : goal.advance-requires-clause-network
advance-requires-clause-network g c = c.requires.network ∙ sym c.loop.invariant.net

pub loop-preserved : goal.loop-preserved
loop-preserved g c =
    let is : c.in_ok-advance.field-0 ≡ true = cc in
    let one = c.in_ok-advance.ensures.next (ap Ok is) in
    let before = c.loop.invariant in
    let longer : length c.advance.new.config.journal ≡ length c.loop.config.journal + 1 =
    ap (λ (m : Moment). length m.journal) one.1
    ∙ length-append c.loop.config.journal (one.0 ∷ []) in
    record {
      net = ap (λ (m : Moment). m.net) one.1 ∙ before.net;
      trace = ap (λ (m : Moment). m.trace) one.1 ∙ before.trace;
      drawn =
          drawn_further c.args.config.now c.loop.config c.advance.new.config c.args.rule.order
          c.args.rule.pace c.args.draws.now.x c.loop.draws.x c.loop.counter before.net before.trace
          before.drawn before.x before.size one;
      x =
          c.in_ok-advance.ensures.moves (ap Ok is) ∙ ap next before.x
          ∙ after_one c.args.draws.now.x c.loop.counter;
      size = omega (arith, longer, before.size);
      ways = c.in_ok-advance.ensures.ways (ap Ok is);
    }

pub loop-init : goal.loop-init
loop-init g c =
    let now = c.args.config.now in
    record {
      net = refl;
      trace = refl;
      drawn =
          subst
          (λ (l : List Entry). IsDrawn now.net now.trace c.args.rule.order c.args.rule.pace
          c.args.draws.now.x [] l) (sym c.requires.start) tt;
      x = sym (after_none c.args.draws.now.x);
      size = ap length c.requires.start;
      ways = c.in_ok-ways.ensures;
    }
