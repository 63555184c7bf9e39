use Rattle.net_gen.proofs.DwindlingEnds.{dwindling_ends, dwindling_completes}
use Rattle.net_gen.proofs.law.dwindling_laws.Goals as goal

pub returns-clause-ends : goal.returns-clause-ends
returns-clause-ends c = dwindling_ends (record {
  steps = c.laws.ensures.steps;
  following = c.laws.ensures.following_is_legal;
  stops = c.laws.ensures.stops;
  moment = c.moving_laws.ensures.moves_moment;
  keeps = c.moving_laws.ensures.keeps_moments;
  waking = c.moving_laws.ensures.moves_waking;
  owed = c.moving_laws.ensures.moves_owed;
  way = c.sending_laws.ensures.first_of_way;
  snap_fits = c.laws.ensures.snap_fits;
})

pub returns-clause-completes : goal.returns-clause-completes
returns-clause-completes c = dwindling_completes (record {
  steps = c.laws.ensures.steps;
  following = c.laws.ensures.following_is_legal;
  stops = c.laws.ensures.stops;
  moment = c.moving_laws.ensures.moves_moment;
  keeps = c.moving_laws.ensures.keeps_moments;
  waking = c.moving_laws.ensures.moves_waking;
  owed = c.moving_laws.ensures.moves_owed;
  way = c.sending_laws.ensures.first_of_way;
  snap_fits = c.laws.ensures.snap_fits;
})
