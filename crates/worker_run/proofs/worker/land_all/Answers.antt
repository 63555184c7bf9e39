use Rattle.std.proofs.Common.{arith, subst, sym, length, ◌-◌, IsTrue}
use Rattle.event_buffer.specs.Arrivals.{OutgoingState, are_arrivals}
use Rattle.worker_run.proofs.Counts.{one_landed, counts_same}
use Rattle.worker_run.proofs.PassedDeliveries.{passed_more, some_left, rest_arrive}
use Rattle.worker_run.proofs.worker.land_all.Goals as goal

pub loop-a-preserved : goal.loop-a-preserved
loop-a-preserved g c =
    let all = c.args.out.now in
    let now = c.loop-a.out in
    let next = c.pass.new.self in
    let before = c.loop-a.invariant in
    let some = some_left now.arrivals c.in-Some.a.now c.in-Some.ensures.some in
    let more = passed_more all now next before.passed some c.pass.ensures in
    let few = before.passed.0 in
    let one = more.1 in
    record {
      left = subst (λ (o : OutgoingState). IsTrue (are_arrivals g.N.Naming.net o.arrivals))
          (sym c.pass.ensures) (rest_arrive g.N.Naming.net now.arrivals before.left);
      passed = more.0;
      counted = counts_same c.args.worker.now.budget c.land.new.worker.budget
          (length all.arrivals - (length now.arrivals - 1))
          (length all.arrivals - length next.arrivals)
          (one_landed c.args.worker.now.budget c.loop-a.worker.budget c.land.new.worker.budget
          (length all.arrivals) (length now.arrivals) before.counted few some
          c.if-not-land.ensures) (omega arith);
    }
