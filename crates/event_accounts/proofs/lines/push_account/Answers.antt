use Rattle.std.proofs.Common.{refl}
use Rattle.std.proofs.lemmas.List.{append_assoc}
use Rattle.event_accounts.proofs.lines.push_account.Goals as goal

pub returns : goal.returns
returns c =
    rw (
      c.in_ok-push-7.ensures.ok,
      c.in_ok-push_place.ensures,
      c.in_ok-push-6.ensures.ok,
      c.in_ok-push_left.ensures,
      c.in_ok-push-5.ensures.ok,
      c.in_ok-push_count-3.ensures,
      c.in_ok-push_count-2.ensures,
      c.in_ok-push_count.ensures,
      c.in_ok-push-4.ensures.ok,
      c.in_ok-push-3.ensures.ok,
      c.in_ok-push-2.ensures.ok,
      c.in_ok-push.ensures.ok,
    ) (simp append_assoc refl)
