use Rattle.net_reader.specs.declared.raw.RawDomain.{RawDomain}
use Rattle.net_rules.specs.Networks.{IsDomainOf}
use Rattle.net_names.proofs.Zips.{zip_step}
use Rattle.net_rules.proofs.domain_list.domains_of.Goals as goal

pub loop-domain-preserved : goal.loop-domain-preserved
loop-domain-preserved c =
    zip_step (λ (d : RawDomain). IsDomainOf d.shape) c.args.domains.now c.loop-domain.domain-index
    c.domain-item.result c.loop-domain.made c.in_ok-next.next c.push.new.self
    c.loop-domain-test.true c.domain-item.is c.in_ok-push.ensures.ok c.in_ok-next.ensures
    c.loop-domain.invariant
