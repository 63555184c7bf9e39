use Rattle.std.proofs.Common.{sym, subst}
use Rattle.std.specs.List.{AllZip}
use Rattle.net_rules.specs.Networks.{IsRowOf}
use Rattle.net_rules.specs.inner.Sound.{Each, IsSoundRow}
use Rattle.net_rules.proofs.machine_list.machine_rows.Goals as goal

pub rows_of-requires-clause-rows : goal.rows_of-requires-clause-rows
rows_of-requires-clause-rows c =
    let names = c.args.names.now in
    subst (λ rows. Each (IsSoundRow names.scope.now.raw.now names.machine.now) rows)
    (sym c.as_slice.ensures) c.requires.kept.rows

pub returns : goal.returns
returns c =
    let names = c.args.names.now in
    subst
    (λ rows. AllZip (IsRowOf names.scope.now.raw.now names.machine.now) rows c.in_ok-rows.rows)
    c.as_slice.ensures c.in_ok-rows.ensures
