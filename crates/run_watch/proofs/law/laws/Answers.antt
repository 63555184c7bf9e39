use Rattle.run_watch.proofs.Fitting.{trace_fits}
use Rattle.run_watch.proofs.Hears.{trace_tells_outputs}
use Rattle.run_watch.proofs.OneAnswer.{complaint_stands, one_answer, some_answer, sources_in_step}
use Rattle.run_watch.proofs.Placed.{placed_are_outputs}
use Rattle.run_watch.proofs.Standing.{stands_at_heard}
use Rattle.run_watch.proofs.Telling.{one_place as one_place_lem}
use Rattle.run_watch.proofs.law.laws.Goals as goal

pub returns : goal.returns
returns c = record {
  placed = placed_are_outputs;
  tells = trace_tells_outputs;
  fits = trace_fits;
  in_step = sources_in_step;
  stands = complaint_stands c.laws.ensures.following_is_legal;
  one_place = one_place_lem;
  emits = stands_at_heard;
  some =
      some_answer c.laws.ensures.schedules c.laws.ensures.stops c.laws.ensures.following_is_legal;
  one = one_answer c.laws.ensures.one_schedule;
}
