use Rattle.std.proofs.Common.{refl}
use Rattle.commands.specs.Bound.{bound_meaning}
use Rattle.input_files.specs.Inputs.{OnlyNetFails}
use Rattle.commands.proofs.BoundMeaning.{bound_made}
use Rattle.commands.proofs.IsMade.{files_failure}
use Rattle.input_files.proofs.FileFails.{net_alone}
use Rattle.commands.proofs.bound.make_bound.Goals as goal

pub returns-in-Ok-print_ranges-clause-made : goal.returns-in-Ok-print_ranges-clause-made
returns-in-Ok-print_ranges-clause-made g c =
    bound_made (g.H.Host.files c.args.host.now) c.args.asked.now c.in-Ok.net
    c.costs_of-costs.result c.showing.result c.in-Ok-print_ranges.shown
    (rw c.net.ensures at c.in-Ok.ensures.held)
    (rw c.costs.ensures.are at c.costs_of-costs.ensures) c.showing.ensures
    c.in-Ok-print_ranges.ensures

pub returns-in-Err-clause-made : goal.returns-in-Err-clause-made
returns-in-Err-clause-made g c =
    let asked = c.args.asked.now in
    files_failure (bound_meaning asked) (g.H.Host.files c.args.host.now) (OnlyNetFails asked.net)
    c.in-Err.failure refl (λ told name cause. refl) (λ files name cause h. h)
    (net_alone asked.net (g.H.Host.files c.args.host.now) c.in-Err.failure
    (rw c.net.ensures at c.in-Err.ensures.failed))
