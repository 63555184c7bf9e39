use Rattle.std.proofs.Common.{◌++◌}
use Rattle.polis_base.specs.Lists.{numbered}
use Rattle.polis_base.proofs.Numbered.{more_numbered}
use Rattle.commands.specs.Lint.{domain_text}
use Rattle.commands.proofs.lint.push_domains.Goals as goal

pub loop-d-preserved : goal.loop-d-preserved
loop-d-preserved c =
    let text = domain_text c.args.unused.now in
    let domains = c.args.raw.now.domains in
    more_numbered text domains c.loop-d.d c.get.result.now c.loop-d.into c.push_domain.new.into
    (c.args.into.now ++ numbered text 0 domains) c.loop-d.invariant c.get.ensures
    c.in_ok-push_domain.ensures
