use Rattle.net_rules.specs.Networks.{IsRowOf}
use Rattle.net_rules.specs.inner.Sound.{IsSoundRow}
use Rattle.net_rules.proofs.Zips.{each_item}
use Rattle.net_names.proofs.Zips.{zip_step}
use Rattle.net_rules.proofs.row_list.rows_of.Goals as goal

pub row_of-requires-clause-row : goal.row_of-requires-clause-row
row_of-requires-clause-row c =
    each_item (IsSoundRow c.args.names.now.scope.now.raw.now c.args.names.now.machine.now)
    c.args.rows.now c.loop-row.row-index c.row-item.result c.loop-row-test.true c.row-item.is
    c.requires.rows

pub loop-row-preserved : goal.loop-row-preserved
loop-row-preserved c =
    zip_step (IsRowOf c.args.names.now.scope.now.raw.now c.args.names.now.machine.now)
    c.args.rows.now c.loop-row.row-index c.row-item.result c.loop-row.made c.in_ok-next.next
    c.push.new.self c.loop-row-test.true c.row-item.is c.in_ok-push.ensures.ok c.in_ok-next.ensures
    c.loop-row.invariant
