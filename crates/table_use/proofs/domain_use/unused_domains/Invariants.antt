use Rattle.std.proofs.Common.{◌≡◌, not, filter}
use Rattle.polis_base.specs.Lists.{upto}
use Rattle.table_use.specs.DomainUse.{is_domain_used}
use Rattle.table_use.proofs.domain_use.unused_domains.Given as goal

-- those before this one
abbrev pub invariant-loop-d : goal.invariant-loop-d
invariant-loop-d l = l.unused ≡ filter (λ d. not (is_domain_used l.net d)) (upto l.d)
