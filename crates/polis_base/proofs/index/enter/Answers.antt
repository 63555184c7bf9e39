use Rattle.polis_base.proofs.Lookups.{found_after}
use Rattle.polis_base.proofs.index.enter.Goals as goal

pub returns-clause-ok : goal.returns-clause-ok
returns-clause-ok c =
    found_after c.args.index.now c.insert.new.self c.args.key c.args.number
    c.in_ok-insert.ensures.updates
