-- The laws of journals that the core rests on.
use Rattle.journals.specs.Laws.{SnapFits, GivesTransition, ReactionFits, SnapByOwn, WokenByOwn, DeliveredByOwn, SentByOwn, FiringsGiveSent, TraceGivesSent, GivenMayArrive, TraceMayArrive}
use Rattle.journals.specs.StampLaws.{AsManyStampsSent, MergedAreLeast}

pub record Known : Type 0 where
  pub snap_fits : SnapFits
  pub gives_transition : GivesTransition
  pub reaction_fits : ReactionFits
  pub snap_by_own : SnapByOwn
  pub woken_by_own : WokenByOwn
  pub delivered_by_own : DeliveredByOwn
  pub sent_by_own : SentByOwn
  pub firings_give : FiringsGiveSent
  pub trace_gives : TraceGivesSent
  pub given_may_arrive : GivenMayArrive
  pub trace_may_arrive : TraceMayArrive
  pub as_many : AsManyStampsSent
  pub merged_least : MergedAreLeast
