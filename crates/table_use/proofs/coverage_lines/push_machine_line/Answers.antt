use Rattle.std.proofs.Common.{refl}
use Rattle.std.proofs.lemmas.List.{append_assoc}
use Rattle.table_use.proofs.coverage_lines.push_machine_line.Goals as goal

pub returns : goal.returns
returns c =
    rw (
      c.in_ok-push-7.ensures.ok,
      c.in_ok-push_first.ensures,
      c.in_ok-push-6.ensures.ok,
      c.in_ok-push_decimal-3.ensures.ok,
      c.in_ok-push-5.ensures.ok,
      c.in_ok-push_decimal-2.ensures.ok,
      c.in_ok-push-4.ensures.ok,
      c.in_ok-push_decimal.ensures.ok,
      c.in_ok-push-3.ensures.ok,
      c.in_ok-push-2.ensures.ok,
      c.in_ok-push.ensures.ok,
      c.bytes.ensures.bytes,
    ) (simp append_assoc refl)
