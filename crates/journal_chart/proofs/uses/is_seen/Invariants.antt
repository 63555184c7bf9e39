use Rattle.std.proofs.Common.{◌≡◌, false}
use Rattle.std.specs.List.{list_any}
use Rattle.polis_base.specs.Lists.{upto}
use Rattle.journals.specs.Seen.{is_present}
use Rattle.journal_chart.proofs.uses.is_seen.Given as goal

-- none before this one is present
abbrev pub invariant-loop-i : goal.invariant-loop-i
invariant-loop-i l = list_any (λ i. is_present i l.codes) (upto l.i) ≡ false
