use Rattle.std.proofs.Common.{◌≡◌, ◌≤◌, ℕ, length, arith}
use Rattle.run_shuffle.specs.Orders.{network_offered}
use Rattle.run_shuffle.proofs.Few.{network_offered_few}
use Rattle.run_shuffle.proofs.OffersUntilComplete.{offered_is_sound}
use Rattle.run_shuffle.proofs.run.advance.Goals as goal

le_along : (a b : ℕ) → a ≡ b → b ≤ 4160 → a ≤ 4160
le_along a b same few = omega (arith, same, few)

pub overflow_add-len : goal.overflow_add-len
overflow_add-len g c =
    let now = c.args.config.now in
    let few =
    network_offered_few now.net now.trace now.journal c.args.rule.order now.net.few_machines in
    let network =
    le_along c.network_chances-network.result
    (length (network_offered c.args.rule.order now.net now.trace now.journal))
    c.network_chances-network.ensures few in
    let own = c.len.ensures.few in
    omega (arith, network, own)

pub entry_of-requires-clause-machine : goal.entry_of-requires-clause-machine
entry_of-requires-clause-machine g c =
    let now = c.args.config.now in
    (offered_is_sound c.laws.ensures c.sending_laws.ensures now.net now.trace now.journal
    c.args.rule.order c.choose-pick.result c.trace-trace.ensures.fits
    c.journal-journal.ensures.legal c.choose-pick.ensures.member).1

pub entry_of-requires-clause-some : goal.entry_of-requires-clause-some
entry_of-requires-clause-some g c =
    let now = c.args.config.now in
    (offered_is_sound c.laws.ensures c.sending_laws.ensures now.net now.trace now.journal
    c.args.rule.order c.choose-pick.result c.trace-trace.ensures.fits
    c.journal-journal.ensures.legal c.choose-pick.ensures.member).0
