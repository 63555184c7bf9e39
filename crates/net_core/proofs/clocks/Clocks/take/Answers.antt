use Rattle.std.proofs.Common.{ℕ, length, ap, ◌∙◌, arith}
use Rattle.net_core.specs.inner.Clocks.{firings_of, clocks_after}
use Rattle.journals.specs.Stamps.{greatest, stamps_at}
use Rattle.net_core.proofs.ClocksAfter.{all_taken}
use Rattle.journals.proofs.MomentsAfter.{length_table}
use Rattle.journals.proofs.CursorsAfter.{machine_within}
use Rattle.net_core.proofs.clocks.Clocks.take.Goals as goal

pub raise-requires : goal.raise-requires
raise-requires c =
    let net = c.args.net.now in
    let size = ap length c.requires.has.1.clocks_are
    ∙ length_table (λ k. greatest (stamps_at k c.requires.has.0)) (length net.machines) in
    let within = machine_within net c.args.entry.now c.requires.fits in
    let is = c.machine.ensures in
    omega arith

pub add_firing-requires : goal.add_firing-requires
add_firing-requires c =
    let net = c.args.net.now in
    let size = ap length c.requires.has.1.firings_are
    ∙ length_table (firings_of c.requires.has.0) (length net.machines) in
    let within = machine_within net c.args.entry.now c.requires.fits in
    omega arith

pub returns : goal.returns
returns c = record {
  taken = λ done h backed more.
      all_taken c.args.net.now done c.args.entry.now c.args.stamp c.args.self.now
      (record {
        clocks = c.raise.new.clocks;
        firings = c.add_firing.new.firings;
        cursors = c.pass_delivery.new.cursors;
      })
      c.requires.fits h backed more (c.raise.ensures
      ∙ ap (λ (i : ℕ). clocks_after i c.args.stamp c.args.self.now.clocks) c.machine.ensures)
      c.in_ok-add_firing.ensures c.pass_delivery.ensures;
}
