use Rattle.std.proofs.Common.{◌≡◌, true, take}
use Rattle.std.specs.List.{list_all}
use Rattle.journal_text.specs.Holding.{values_hold}
use Rattle.journal_text.proofs.kept.keep_domains.Given as goal

-- those before this one hold
abbrev pub invariant-loop-domain : goal.invariant-loop-domain
invariant-loop-domain l = list_all values_hold (take l.domain-index l.domains) ≡ true
