use Rattle.journals.proofs.CursorsAfter.{env_may_follow}
use Rattle.journals.proofs.MayArrive.{given_may_arrive, trace_may_arrive, env_may_arrive as env_may_arrive_lem, given_by_machine as given_by_machine_lem, given_by_env as given_by_env_lem}
use Rattle.journals.proofs.OwnEntries.{snap_by_own, woken_by_own, delivered_by_own, sent_by_own}
use Rattle.journals.proofs.FirstOfWay.{first_of_machine}
use Rattle.journals.proofs.FirstOfCursors.{first_by_cursors, nothing_by_cursors, event_at_cursor}
use Rattle.journals.proofs.DeliveredBeginsSent.{delivered_begins_sent, may_follow_next}
use Rattle.journals.proofs.StopsWhereComplete.{complete_is_owing_nothing, owing_nothing_is_complete}
use Rattle.journals.proofs.DeliveriesOfWay.{machine_ways, env_ways_from}
use Rattle.journals.proofs.law.sending_laws.Goals as goal

pub returns : goal.returns
returns c = record {
  snap_by_own = snap_by_own;
  woken_by_own = woken_by_own;
  delivered_by_own = delivered_by_own;
  sent_by_own = sent_by_own;
  firings_give = machine_ways;
  trace_gives = env_ways_from;
  given_may_arrive = given_may_arrive;
  trace_may_arrive = trace_may_arrive;
  env_may_arrive = env_may_arrive_lem;
  given_by_machine = given_by_machine_lem;
  given_by_env = given_by_env_lem;
  delivered_begins = delivered_begins_sent;
  next =
      λ net trace journal s m e c legal.
      may_follow_next net trace journal s m e c (delivered_begins_sent net trace s m journal legal);
  first_of_way = first_of_machine;
  at_cursor = env_may_follow;
  first_of_cursors = first_by_cursors;
  none_at_ends = nothing_by_cursors;
  events_at_cursors = event_at_cursor;
  complete =
      λ net trace journal legal. (
        complete_is_owing_nothing net trace journal legal,
        owing_nothing_is_complete net trace journal
            legal,
      );
}
