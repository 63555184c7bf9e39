use Rattle.worker_core.proofs.law.known.Goals as goal

pub returns : goal.returns
returns c = record {
  snap_fits = c.laws.ensures.snap_fits;
  gives_transition = c.laws.ensures.gives_transition;
  reaction_fits = c.laws.ensures.reaction_fits;
  snap_by_own = c.sending_laws.ensures.snap_by_own;
  woken_by_own = c.sending_laws.ensures.woken_by_own;
  delivered_by_own = c.sending_laws.ensures.delivered_by_own;
  sent_by_own = c.sending_laws.ensures.sent_by_own;
  firings_give = c.sending_laws.ensures.firings_give;
  trace_gives = c.sending_laws.ensures.trace_gives;
  given_may_arrive = c.sending_laws.ensures.given_may_arrive;
  trace_may_arrive = c.sending_laws.ensures.trace_may_arrive;
  as_many = c.stamp_laws.ensures.sent_many;
  merged_least = c.stamp_laws.ensures.merged_are_least;
}
