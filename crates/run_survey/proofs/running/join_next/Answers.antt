use Rattle.std.proofs.Common.{◌+◌, arith}
use Rattle.run_survey.proofs.RunsJoined.{alike, few_runs, neighbours, of_runs, runs_are}
use Rattle.run_survey.proofs.Shapes.{shaped}
use Rattle.run_survey.proofs.running.join_next.Goals as goal

pub join-requires : goal.join-requires
join-requires g c =
    let net = g.R.Reactor.meaning c.args.r.now in
    let monitor = g.W.Watcher.monitor c.args.w.now in
    let trace = c.args.trace.now in
    let order = c.args.drawing.order in
    let limit = c.args.drawing.limit in
    let old = c.args.survey.now in
    let seed = old.seed + old.runs in
    let next = c.in_ok-next.next in
    let told = c.requires.told in
    let one = c.in_ok-next.ensures.is in
    record {
      told = of_runs net monitor trace order limit old.seed old.runs old told;
      next_told = of_runs net monitor trace order limit seed 1 next one;
      alike =
          alike net monitor old next
          (shaped net monitor trace order limit old.seed old.runs old told)
          (shaped net monitor trace order limit seed 1 next one);
      neighbours =
          neighbours net monitor trace order limit old.seed old.runs 1 old next told one;
      no_others = few_runs net monitor trace order limit seed 1 next one (omega arith);
      room =
          (let more = runs_are net monitor trace order limit seed 1 next one in
          let room = c.requires.room in
          omega arith);
    }

pub returns-clause-told : goal.returns-clause-told
returns-clause-told g c =
    let old = c.args.survey.now in
    c.in_ok-join.ensures.is (g.R.Reactor.meaning c.args.r.now)
    (g.W.Watcher.monitor c.args.w.now) c.args.trace.now c.args.drawing.order
    c.args.drawing.limit old.seed old.runs 1 c.requires.told c.in_ok-next.ensures.is
