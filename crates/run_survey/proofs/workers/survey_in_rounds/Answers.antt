use Rattle.std.proofs.Common.{◌+◌, ◌*◌, ◌∙◌, arith}
use Rattle.run_survey.specs.inner.Workers.{Task}
use Rattle.run_survey.proofs.WorkersJoined.{round_comes}
use Rattle.run_survey.proofs.workers.survey_in_rounds.Goals as goal

pub pieces_of-requires-clause-ready : goal.pieces_of-requires-clause-ready
pieces_of-requires-clause-ready g c κs within =
    c.in_ok-jobs.ensures.ready (g.R.Reactor.meaning c.args.r.now) c.args.tables.now
    c.loop-done.invariant.knows

pub add_pieces-requires : goal.add_pieces-requires
add_pieces-requires g c =
    let task : Task = record {
      net = g.R.Reactor.meaning c.args.r.now;
      monitor = g.W.Watcher.monitor c.args.w.now;
      tables = c.args.tables.now;
      trace = c.args.trace.now;
      drawing = c.args.drawing;
      first = c.args.seeds.first;
      size = c.share_of-share.result.size;
    } in
    let jobs = c.share_of-share.result.jobs in
    let done = c.loop-done.done in
    let within = c.share_of-share.ensures.within in (
      task,
      done + jobs * task.size,
      round_comes task done jobs c.loop-done.so_far c.in_ok-pieces.pieces.items
          c.loop-done.invariant.told
          (c.in_ok-pieces.ensures.pieces (task.first + done) task.size c.in_ok-jobs.ensures.row)
          (c.in_ok-pieces.ensures.many ∙ c.in_ok-jobs.ensures.many) (omega arith),
    )

pub loop-done-preserved : goal.loop-done-preserved
loop-done-preserved g c =
    let task : Task = record {
      net = g.R.Reactor.meaning c.args.r.now;
      monitor = g.W.Watcher.monitor c.args.w.now;
      tables = c.args.tables.now;
      trace = c.args.trace.now;
      drawing = c.args.drawing;
      first = c.args.seeds.first;
      size = c.share_of-share.result.size;
    } in
    let jobs = c.share_of-share.result.jobs in
    let done = c.loop-done.done in
    let within = c.share_of-share.ensures.within in
    let many = c.in_ok-pieces.ensures.many ∙ c.in_ok-jobs.ensures.many in
    let comes = round_comes task done jobs c.loop-done.so_far c.in_ok-pieces.pieces.items
    c.loop-done.invariant.told
    (c.in_ok-pieces.ensures.pieces (task.first + done) task.size c.in_ok-jobs.ensures.row) many
    (omega arith) in
    let joined = c.in_ok-add_pieces.ensures in
    record {
      within = omega arith;
      told = joined.told task (done + jobs * task.size) comes;
      knows =
          joined.knows task (done + jobs * task.size) comes
          (c.in_ok-jobs.ensures.knows task.net task.tables c.loop-done.invariant.knows);
      some =
          (let some = c.share_of-share.ensures.jobs in
          let all = joined.many in
          omega arith);
    }
