use Rattle.std.proofs.Common.{take, subst}
use Rattle.transition_table.specs.declared.network.Network.{Network}
use Rattle.net_core.specs.Prefixes.{IsLegalPrefix}
use Rattle.net_core.proofs.prefix.legal_prefix.Goals as goal

pub returns : goal.returns
returns g c =
    let trace = c.args.trace.now in
    let j = c.args.j.now in
    let taken = c.in_ok-count.ensures in
    let k = c.in_ok-count.count in
    subst
    (λ (n : Network). IsLegalPrefix n trace j k c.is_complete-complete.result
    c.in_ok-count.against) c.network-net.ensures
    (record {
      up_to = taken.longest;
      completes = c.is_complete-complete.ensures (take k j) taken.current;
      reason = taken.reason;
      no_reason = taken.no_reason;
    })
