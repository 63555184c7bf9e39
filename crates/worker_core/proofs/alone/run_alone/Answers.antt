use Rattle.std.proofs.Common.{◌≡◌, ◌∙◌, ap, subst, arith}
use Rattle.worker_core.specs.Merges.{merged}
use Rattle.worker_core.specs.Running.{CoreMoment}
use Rattle.worker_core.specs.Turns.{IsRun, IsWhole}
use Rattle.worker_core.specs.inner.Turns.{Took}
use Rattle.worker_core.proofs.WholeRuns.{turn_gains, alone_first, at_most, if_ok_then, run_merges, whole_by_count, whole_by_stop}
use Rattle.worker_core.proofs.alone.run_alone.Goals as goal

pub loop-init : goal.loop-init
loop-init g c =
    record {
      alone = alone_first c.args.net.now c.args.trace.now c.in_ok-core.core
          c.core_laws.ensures.start c.requires.fits c.in_ok-core.ensures;
      few = omega arith;
    }

pub returns-then-made-count-clause-run : goal.returns-then-made-count-clause-run
returns-then-made-count-clause-run g c =
    if_ok_then c.merged_logs.result (λ j. j ≡ merged c.loop.core.state.logs)
    (IsRun c.args.net.now c.args.trace.now) c.merged_logs.ensures.merge
    (λ j is. run_merges c.args.net.now c.args.trace.now c.loop.core c.loop.made c.loop.counter j
    c.loop.invariant.alone is)

pub returns-then-made-count-clause-whole : goal.returns-then-made-count-clause-whole
returns-then-made-count-clause-whole g c =
    if_ok_then c.merged_logs.result (λ j. j ≡ merged c.loop.core.state.logs)
    (IsWhole c.args.net.now c.args.trace.now c.args.count) c.merged_logs.ensures.merge
    (λ j is. whole_by_count c.args.net.now c.args.trace.now c.loop.core c.loop.made c.loop.counter
    c.args.count j c.loop.invariant.alone c.if-made-count.true is)

pub returns-in-None-clause-run : goal.returns-in-None-clause-run
returns-in-None-clause-run g c =
    let same : c.turn.new.core ≡ c.loop.core =
    subst (Took c.loop.core c.turn.new.core) c.in-None.is c.in_ok-step.ensures.took in
    if_ok_then c.merged_logs-in-None.result (λ j. j ≡ merged c.turn.new.core.state.logs)
    (IsRun c.args.net.now c.args.trace.now) c.merged_logs-in-None.ensures.merge
    (λ j is. run_merges c.args.net.now c.args.trace.now c.loop.core c.loop.made c.loop.counter j
    c.loop.invariant.alone (is ∙ ap (λ (v : CoreMoment). merged v.state.logs) same))

pub returns-in-None-clause-whole : goal.returns-in-None-clause-whole
returns-in-None-clause-whole g c =
    let same : c.turn.new.core ≡ c.loop.core =
    subst (Took c.loop.core c.turn.new.core) c.in-None.is c.in_ok-step.ensures.took in
    let few = c.loop.invariant.few in
    let other = c.if-made-count.false in
    if_ok_then c.merged_logs-in-None.result (λ j. j ≡ merged c.turn.new.core.state.logs)
    (IsWhole c.args.net.now c.args.trace.now c.args.count) c.merged_logs-in-None.ensures.merge
    (λ j is. whole_by_stop c.args.net.now c.args.trace.now c.loop.core c.loop.made c.loop.counter
    c.args.count j c.core_laws.ensures.stopped c.loop.invariant.alone (omega arith)
    c.requires.count (c.in_ok-step.ensures.stopped c.in-None.is) (is ∙ ap (λ (v : CoreMoment). merged v.state.logs) same))

pub returns-clause-run : goal.returns-clause-run
returns-clause-run g c =
    if_ok_then c.merged_logs-2.result (λ j. j ≡ merged c.loop.core.state.logs)
    (IsRun c.args.net.now c.args.trace.now) c.merged_logs-2.ensures.merge
    (λ j is. run_merges c.args.net.now c.args.trace.now c.loop.core c.loop.made c.loop.counter j
    c.loop.invariant.alone is)

pub returns-clause-whole : goal.returns-clause-whole
returns-clause-whole g c =
    let few = c.loop.invariant.few in
    let gain = c.loop.invariant.alone.gain in
    let end = c.loop-test.false in
    if_ok_then c.merged_logs-2.result (λ j. j ≡ merged c.loop.core.state.logs)
    (IsWhole c.args.net.now c.args.trace.now c.args.count) c.merged_logs-2.ensures.merge
    (λ j is. whole_by_count c.args.net.now c.args.trace.now c.loop.core c.loop.made c.loop.counter
    c.args.count j c.loop.invariant.alone (omega arith) is)

pub loop-preserved : goal.loop-preserved
loop-preserved g c =
    let net = c.args.net.now in
    let trace = c.args.trace.now in
    record {
      alone = turn_gains net trace c.loop.core c.turn.new.core c.in-Some.step c.loop.made
          c.loop.counter c.added_by-made.result (c.core_laws.ensures.steps net trace)
          c.loop.invariant.alone
          (subst (Took c.loop.core c.turn.new.core) c.in-Some.is c.in_ok-step.ensures.took)
          c.added_by-made.ensures;
      few = at_most c.loop.made c.added_by-made.result c.args.count c.in-Some.step
          c.loop.invariant.few c.if-made-count.false c.added_by-made.ensures;
    }
