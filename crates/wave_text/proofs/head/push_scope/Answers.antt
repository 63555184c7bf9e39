use Rattle.std.proofs.Common.{refl}
use Rattle.std.proofs.lemmas.List.{append_assoc}
use Rattle.wave_text.proofs.head.push_scope.Goals as goal

pub returns : goal.returns
returns c =
    rw (c.in_ok-push-3.ensures.ok, c.in_ok-push-2.ensures.ok, c.in_ok-push.ensures.ok)
    (simp append_assoc refl)
