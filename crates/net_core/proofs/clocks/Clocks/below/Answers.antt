use Rattle.std.proofs.Common.{◌≡◌, ℕ, max, length, slice_get, Some, sym, ap, subst, ◌∙◌, arith}
use Rattle.journals.specs.Moved.{machine_of}
use Rattle.journals.specs.Stamps.{greatest, stamps_at, origin}
use Rattle.net_core.proofs.ClocksAfter.{clock_at}
use Rattle.journals.proofs.MomentsAfter.{length_table}
use Rattle.journals.proofs.CursorsAfter.{machine_within}
use Rattle.journals.proofs.LeastStamps.{greatest_both}
use Rattle.net_core.proofs.clocks.Clocks.below.Goals as goal

pub get-clock-requires : goal.get-clock-requires
get-clock-requires c =
    let net = c.args.net.now in
    let size = ap length c.requires.has.1.clocks_are
    ∙ length_table (λ k. greatest (stamps_at k c.requires.has.0)) (length net.machines) in
    let within = machine_within net c.args.entry.now c.requires.fits in
    let is = c.machine.ensures in
    omega arith

pub returns-clause-stamp : goal.returns-clause-stamp
returns-clause-stamp c = λ done h.
    let net = c.args.net.now in
    let entry = c.args.entry.now in
    let m : ℕ = machine_of entry in
    let at = subst (λ (i : ℕ). slice_get c.args.self.now.clocks i ≡ Some c.get-clock.result.now)
    c.machine.ensures c.get-clock.ensures in
    c.max.ensures
    ∙ ap (λ (i : ℕ). max i c.origin-origin.result)
    (clock_at net done c.args.self.now.clocks m c.get-clock.result.now
    (machine_within net entry c.requires.fits) h.clocks_are at)
    ∙ ap (max (greatest (stamps_at m done))) (c.origin-origin.ensures.stamp done h)
    ∙ sym (greatest_both (stamps_at m done) (origin net done entry))
