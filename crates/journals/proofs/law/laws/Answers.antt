use Rattle.journals.proofs.Alone.{reacts_by_own, prefixes_are_alone, alone_by_steps, log_is_alone, alone_fits as alone_fits_lem}
use Rattle.journals.proofs.Legal.{prefixes_are_legal, goes_on_by_steps}
use Rattle.journals.proofs.FirstOfWay.{first_of_machines_may_follow, first_of_env_may_follow}
use Rattle.journals.proofs.FitsNetwork.{first_of_machines_fits, first_of_env_fits, picked_fits}
use Rattle.journals.proofs.SnapFits.{snap_fits_below}
use Rattle.journals.proofs.StopsWhereComplete.{stops_where_complete, picked_may_follow, picked_is_legal}
use Rattle.journals.proofs.Follows.{follows_by_steps, follows_at_end, follows_is_legal, one_schedule}
use Rattle.journals.proofs.Reactions.{gives_transition, reaction_fits, goes_on_by_picks, schedule_of_length}
use Rattle.journals.proofs.law.laws.Goals as goal

pub returns : goal.returns
returns c = record {
  prefixes = prefixes_are_legal;
  steps = goes_on_by_steps;
  first_of_machines = first_of_machines_may_follow;
  first_of_env =
      λ net trace journal d settled.
      first_of_env_may_follow net trace journal (d, settled);
  first_of_machines_fits = first_of_machines_fits;
  first_of_env_fits =
      λ net trace journal d settled.
      first_of_env_fits net trace journal (d, settled);
  snap_fits = snap_fits_below;
  stops = stops_where_complete;
  picked_may_follow = picked_may_follow;
  picked_fits = picked_fits c.laws.ensures.transition_fits;
  picked_is_legal = picked_is_legal;
  follows = follows_by_steps;
  follows_at_end = follows_at_end;
  following_is_legal = follows_is_legal c.laws.ensures.transition_fits;
  one_schedule = one_schedule c.laws.ensures.one_outcome c.laws.ensures.transition_fits;
  gives_transition = gives_transition c.laws_of_computing.ensures.outcome_by_rows;
  reaction_fits =
      reaction_fits (gives_transition c.laws_of_computing.ensures.outcome_by_rows)
      c.laws.ensures.transition_fits;
  goes_on =
      goes_on_by_picks (gives_transition c.laws_of_computing.ensures.outcome_by_rows)
      c.laws.ensures.transition_fits;
  schedules =
      schedule_of_length (gives_transition c.laws_of_computing.ensures.outcome_by_rows)
      c.laws.ensures.transition_fits;
  reacts_by_own = reacts_by_own;
  prefixes_alone = prefixes_are_alone;
  alone_steps = alone_by_steps;
  log_alone = log_is_alone;
  alone_fits = alone_fits_lem;
}
