use Rattle.std.proofs.Common.{◌≡◌, take, None}
use Rattle.std.specs.List.{find}
use Rattle.journals.specs.Journals.{is_woken}
use Rattle.scheduler_gen.proofs.next.first_to_react.Given as goal

-- no machine before this one is woken
abbrev pub invariant-loop-i : goal.invariant-loop-i
invariant-loop-i l = find (is_woken l.config.journal) (take l.i l.plan) ≡ None
