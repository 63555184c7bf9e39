use Rattle.std.proofs.Common.{◌≡◌, ℕ, List, ◌++◌, flat_map, sym, ap, ◌∙◌, append_assoc, arith}
use Rattle.polis_base.specs.Lists.{upto}
use Rattle.polis_base.specs.Draws.{next, after, draw}
use Rattle.net_gen.specs.Traces.{tick_line, settle_line, lines_at, ticks}
use Rattle.polis_base.proofs.DrawsAfter.{after_none, after_one}
use Rattle.net_gen.proofs.MoreItems.{flat_more}
use Rattle.net_gen.proofs.trace.ticks.Goals as goal

pub loop-k-init : goal.loop-k-init
loop-k-init c = record {
  made = c.new-out.ensures;
  moved = sym (after_none c.args.draws.now.x);
}

pub loop-k-preserved : goal.loop-k-preserved
loop-k-preserved c =
    let k = c.loop-k.k in
    let count = c.args.count in
    let x = c.args.draws.now.x in
    let f : ℕ → List ℕ = lines_at count x in
    let before : List ℕ = flat_map f (upto k) in
    let drawn : c.draw.result ≡ draw (after x k) count =
    c.draw.ensures.answer ∙ ap (λ (s : ℕ). draw s count) c.loop-k.invariant.moved in
    let tick : c.push_tick.new.out ≡ before ++ tick_line (draw (after x k) count) =
    c.in_ok-push_tick.ensures
    ∙ ap (λ (l : List ℕ). l ++ tick_line c.draw.result) c.loop-k.invariant.made
    ∙ ap (λ (m : ℕ). before ++ tick_line m) drawn in
    record {
      made =
          c.in_ok-push_settle.ensures
          ∙ ap (λ (l : List ℕ). l ++ settle_line k) tick
          ∙ append_assoc before (tick_line (draw (after x k) count)) (settle_line k)
          ∙ sym (flat_more f k);
      moved = c.draw.ensures.moves ∙ ap next c.loop-k.invariant.moved ∙ after_one x k;
    }

pub returns : goal.returns
unfolding ticks
returns c =
    let all : c.loop-k.k ≡ 2000 =
    omega (arith, c.loop-k.auto.k-end, c.loop-k-test.false) in
    c.loop-k.invariant.made
    ∙ ap (λ (n : ℕ). flat_map (lines_at c.args.count c.args.draws.now.x) (upto n)) all
