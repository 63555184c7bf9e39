-- Which laws there are, in lists.
use Rattle.journals.specs.Laws.{PrefixesAreLegal, GoesOnBySteps, FirstOfMachinesMayFollow, FirstOfEnvMayFollow, FirstOfMachinesFits, FirstOfEnvFits, SnapFits, StopsWhereComplete, PickedMayFollow, PickedFits, PickedIsLegal, FollowsBySteps, FollowsAtEnd, FollowingIsLegal, OneSchedule, GivesTransition, ReactionFits, GoesOnByPicks, ScheduleOfLength, ReactsByOwn, PrefixesAreAlone, AloneBySteps, LogIsAlone, AloneFits, FirstMoment, MovesMoment, KeepsMoments, MovesMoments, MovesWaking, MovesWakings, MovesCursors, MovesOwed, SnapWidth, FittingSuits, SnapByOwn, WokenByOwn, DeliveredByOwn, SentByOwn, FiringsGiveSent, TraceGivesSent, GivenMayArrive, TraceMayArrive, EnvMayArrive, GivenByMachine, GivenByEnv, DeliveredBeginsSent, NextMayFollow, FirstOfWayMayFollow, AtCursorMayFollow, FirstOfCursors, NoneAtEnds, EventsAtCursors, CompleteOwesNothing}
use Rattle.journals.specs.StampLaws.{LeastIsRising, NoneIsSmaller, LeastAreAsMany, LeastAreWithin, RisingAreAsMany, PrefixesRise, LeastGoesOn, LeastBySteps, RisingBySteps, StandsAbove, AsManyStampsSent, OriginIsBefore, OriginIsFiring, LeastByPlaces, StampsByOwn, MergedAreLeast}

-- What follows from the definitions.
pub record JournalLaws : Type 0 where
  pub prefixes : PrefixesAreLegal
  pub steps : GoesOnBySteps
  pub first_of_machines : FirstOfMachinesMayFollow
  pub first_of_env : FirstOfEnvMayFollow
  pub first_of_machines_fits : FirstOfMachinesFits
  pub first_of_env_fits : FirstOfEnvFits
  pub snap_fits : SnapFits
  pub stops : StopsWhereComplete
  pub picked_may_follow : PickedMayFollow
  pub picked_fits : PickedFits
  pub picked_is_legal : PickedIsLegal
  pub follows : FollowsBySteps
  pub follows_at_end : FollowsAtEnd
  pub following_is_legal : FollowingIsLegal
  pub one_schedule : OneSchedule
  pub gives_transition : GivesTransition
  pub reaction_fits : ReactionFits
  pub goes_on : GoesOnByPicks
  pub schedules : ScheduleOfLength
  pub reacts_by_own : ReactsByOwn
  pub prefixes_alone : PrefixesAreAlone
  pub alone_steps : AloneBySteps
  pub log_alone : LogIsAlone
  pub alone_fits : AloneFits

-- What one entry more makes of snapshots, wakings, cursors and what is owed.
pub record MovingLaws : Type 0 where
  pub first_moment : FirstMoment
  pub moves_moment : MovesMoment
  pub keeps_moments : KeepsMoments
  pub moves_moments : MovesMoments
  pub moves_waking : MovesWaking
  pub moves_wakings : MovesWakings
  pub moves_cursors : MovesCursors
  pub moves_owed : MovesOwed
  pub snap_width : SnapWidth
  pub fitting_suits : FittingSuits

-- What is sent, given, owed and delivered, and that each machine reads its own entries alone.
pub record SendingLaws : Type 0 where
  pub snap_by_own : SnapByOwn
  pub woken_by_own : WokenByOwn
  pub delivered_by_own : DeliveredByOwn
  pub sent_by_own : SentByOwn
  pub firings_give : FiringsGiveSent
  pub trace_gives : TraceGivesSent
  pub given_may_arrive : GivenMayArrive
  pub trace_may_arrive : TraceMayArrive
  pub env_may_arrive : EnvMayArrive
  pub given_by_machine : GivenByMachine
  pub given_by_env : GivenByEnv
  pub delivered_begins : DeliveredBeginsSent
  pub next : NextMayFollow
  pub first_of_way : FirstOfWayMayFollow
  pub at_cursor : AtCursorMayFollow
  pub first_of_cursors : FirstOfCursors
  pub none_at_ends : NoneAtEnds
  pub events_at_cursors : EventsAtCursors
  pub complete : CompleteOwesNothing

-- What is true of least stamps, of rising ones, and of origins.
pub record StampingLaws : Type 0 where
  pub least_rises : LeastIsRising
  pub none_is_smaller : NoneIsSmaller
  pub least_many : LeastAreAsMany
  pub least_within : LeastAreWithin
  pub rising_many : RisingAreAsMany
  pub prefixes_rise : PrefixesRise
  pub least_goes_on : LeastGoesOn
  pub least_steps : LeastBySteps
  pub rising_steps : RisingBySteps
  pub stands_above : StandsAbove
  pub sent_many : AsManyStampsSent
  pub origin_is_before : OriginIsBefore
  pub origin_is_firing : OriginIsFiring
  pub least_by_places : LeastByPlaces
  pub stamps_by_own : StampsByOwn
  pub merged_are_least : MergedAreLeast
