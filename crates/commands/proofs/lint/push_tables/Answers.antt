use Rattle.std.proofs.Common.{◌++◌, flat_map}
use Rattle.commands.specs.Lint.{table_text}
use Rattle.commands.proofs.TableLines.{next_table}
use Rattle.commands.proofs.lint.push_tables.Goals as goal

pub loop-m-preserved : goal.loop-m-preserved
loop-m-preserved c =
    let net = c.args.net.now in
    next_table net c.loop-m.m c.in_ok-found.found c.loop-m.into c.push_lint.new.into
    (c.args.into.now ++ flat_map (table_text net) net.machines) c.in_ok-found.ensures.is
    c.in_ok-push_lint.ensures.ok c.loop-m.invariant
