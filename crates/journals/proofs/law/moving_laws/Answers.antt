use Rattle.journals.proofs.CursorsAfter.{cursors_are_after, moves_owed}
use Rattle.journals.proofs.MomentsAfter.{first_snap, snap_after, snap_away, moments_after, is_woken_after, wakings_after, snap_width as snap_width_lem, fitting_suits as fitting_suits_lem}
use Rattle.journals.proofs.law.moving_laws.Goals as goal

pub returns : goal.returns
returns c = record {
  first_moment = first_snap;
  moves_moment = snap_after;
  keeps_moments = snap_away;
  moves_moments = moments_after;
  moves_waking = is_woken_after;
  moves_wakings = wakings_after;
  moves_cursors = cursors_are_after;
  moves_owed = moves_owed;
  snap_width = snap_width_lem;
  fitting_suits = fitting_suits_lem;
}
