use Rattle.std.proofs.Common.{◌∙◌}
use Rattle.commands.proofs.EquivMeaning.{compared_loaded, compared_made, first_fails, second_fails}
use Rattle.commands.proofs.equiv.make_equiv.Goals as goal

pub returns-in-Ok-load_net-clause-made : goal.returns-in-Ok-load_net-clause-made
returns-in-Ok-load_net-clause-made g c =
    compared_made (g.H.Host.files c.args.host.now) c.args.asked.now c.in-Ok.net
    c.in-Ok-load_net.other c.compare_loaded.result (rw c.net.ensures at c.in-Ok.ensures.held)
    (rw c.net.ensures at c.in-Ok.ensures.one)
    (rw (c.in-Ok.ensures.left.files, c.other-name.ensures) at c.in-Ok-load_net.ensures.held)
    (rw (c.in-Ok.ensures.left.files, c.other-name.ensures) at c.in-Ok-load_net.ensures.one)
    c.compare_loaded.ensures.made
    (rw c.other-name.ensures at c.compare_loaded.ensures.failed)

pub returns-in-Ok-load_net-clause-left : goal.returns-in-Ok-load_net-clause-left
returns-in-Ok-load_net-clause-left g c =
    let first = c.in-Ok.ensures.left in
    let second = c.in-Ok-load_net.ensures.left in
    rw (compared_loaded c.other-name.result.now c.in-Ok.net c.in-Ok-load_net.other
    c.compare_loaded.result c.compare_loaded.ensures.failed) (record {
      files = second.files ∙ first.files;
      shown = second.shown ∙ first.shown;
      load_faults = second.load_faults ∙ first.load_faults;
      write_faults = second.write_faults ∙ first.write_faults;
    })

pub returns-in-Err-clause-made : goal.returns-in-Err-clause-made
returns-in-Err-clause-made g c =
    first_fails (g.H.Host.files c.args.host.now) c.args.asked.now c.in-Err.failure
    (rw c.net.ensures at c.in-Err.ensures.failed)

pub returns-clause-made : goal.returns-clause-made
returns-clause-made g c =
    second_fails (g.H.Host.files c.args.host.now) c.args.asked.now c.in-Ok.net
    c.in-Err-load_net.failure (rw c.net.ensures at c.in-Ok.ensures.held)
    (rw c.net.ensures at c.in-Ok.ensures.one)
    (rw (c.in-Ok.ensures.left.files, c.other-name.ensures) at c.in-Err-load_net.ensures.failed)
