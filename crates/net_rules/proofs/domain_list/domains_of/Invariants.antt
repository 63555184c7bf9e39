-- The domains that were made are those of the declarations that were gone over.
use Rattle.std.proofs.Common.{take}
use Rattle.std.specs.List.{AllZip}
use Rattle.net_reader.specs.declared.raw.RawDomain.{RawDomain}
use Rattle.net_rules.specs.Networks.{IsDomainOf}
use Rattle.net_rules.proofs.domain_list.domains_of.Given as goal

abbrev pub invariant-loop-domain : goal.invariant-loop-domain
invariant-loop-domain l =
    AllZip (λ (d : RawDomain). IsDomainOf d.shape) (take l.domain-index l.domains) l.made
