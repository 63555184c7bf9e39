use Rattle.std.proofs.Common.{refl}
use Rattle.std.proofs.lemmas.List.{append_assoc}
use Rattle.run_survey.proofs.last_line.push_unfinished.Goals as goal

pub returns : goal.returns
returns c =
    rw (c.in_ok-push.ensures.ok, c.in_ok-push_count-2.ensures, c.in_ok-push_count.ensures)
    (simp append_assoc refl)
