use Rattle.std.proofs.Common.{arith}
use Rattle.run_survey.proofs.RunsJoined.{few_runs, of_own, one_more, runs_are}
use Rattle.run_survey.proofs.Shapes.{shaped}
use Rattle.run_survey.proofs.running.survey_with.Goals as goal

pub join_next-requires-clause-told : goal.join_next-requires-clause-told
join_next-requires-clause-told g c =
    of_own (g.R.Reactor.meaning c.args.r.now) (g.W.Watcher.monitor c.args.w.now)
    c.args.trace.now c.args.drawing.order c.args.drawing.limit c.args.seeds.first
    c.loop.counter c.loop.survey c.loop.invariant.told

pub join_next-requires-clause-seed : goal.join_next-requires-clause-seed
join_next-requires-clause-seed g c =
    let told = c.loop.invariant.told in
    let seed = told.told.seed in
    let runs = runs_are (g.R.Reactor.meaning c.args.r.now) (g.W.Watcher.monitor c.args.w.now)
    c.args.trace.now c.args.drawing.order c.args.drawing.limit c.args.seeds.first
    c.loop.counter c.loop.survey told in
    let room = c.requires.room in
    omega arith

pub join_next-requires-clause-room : goal.join_next-requires-clause-room
join_next-requires-clause-room g c =
    let runs = runs_are (g.R.Reactor.meaning c.args.r.now) (g.W.Watcher.monitor c.args.w.now)
    c.args.trace.now c.args.drawing.order c.args.drawing.limit c.args.seeds.first
    c.loop.counter c.loop.survey c.loop.invariant.told in
    omega arith

pub loop-preserved : goal.loop-preserved
loop-preserved g c = record {
  told =
      one_more (g.R.Reactor.meaning c.args.r.now) (g.W.Watcher.monitor c.args.w.now)
      c.args.trace.now c.args.drawing.order c.args.drawing.limit c.args.seeds.first
      c.loop.counter c.loop.survey c.join_next.new.survey c.loop.invariant.told
      c.in_ok-join_next.ensures.told;
  memos = c.in_ok-join_next.ensures.memos;
}

pub returns-clause-few : goal.returns-clause-few
returns-clause-few g c = λ few.
    few_runs (g.R.Reactor.meaning c.args.r.now) (g.W.Watcher.monitor c.args.w.now)
    c.args.trace.now c.args.drawing.order c.args.drawing.limit c.args.seeds.first
    c.loop.counter c.loop.survey c.loop.invariant.told
    (let some = c.requires.some in let end = c.loop.auto.counter-end in omega arith)

pub returns-clause-shape : goal.returns-clause-shape
returns-clause-shape g c =
    shaped (g.R.Reactor.meaning c.args.r.now) (g.W.Watcher.monitor c.args.w.now)
    c.args.trace.now c.args.drawing.order c.args.drawing.limit c.args.seeds.first
    c.loop.counter c.loop.survey c.loop.invariant.told
