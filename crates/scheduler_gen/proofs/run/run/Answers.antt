use Rattle.std.proofs.Common.{◌≡◌, true, false, Ok, ap, arith}
use Rattle.scheduler_gen.proofs.RunSteps.{goes_further, longer_by_one, stops_here}
use Rattle.scheduler_gen.proofs.run.run.Goals as goal

pub returns-then-not-branch-clause-ends : goal.returns-then-not-branch-clause-ends
returns-then-not-branch-clause-ends g c =
    let is : c.in_ok-advance.field-0 ≡ false = cc in
    stops_here c.args.config.now c.loop.config c.advance.new.config c.loop.counter c.args.count
    c.loop.invariant.goes_on (c.in_ok-advance.ensures.same (ap Ok is))
    (c.in_ok-advance.ensures.stop (ap Ok is))

pub loop-preserved : goal.loop-preserved
loop-preserved g c =
    let is : c.in_ok-advance.field-0 ≡ true = cc in
    let next = c.in_ok-advance.ensures.next (ap Ok is) in
    let longer = longer_by_one c.loop.config c.advance.new.config next in
    record {
      goes_on = goes_further c.laws.ensures.follows c.args.config.now c.loop.config
          c.advance.new.config c.loop.counter c.loop.invariant.goes_on next;
      longer = omega (arith, longer, c.loop.invariant.longer);
    }
