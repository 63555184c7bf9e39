use Rattle.std.proofs.Common.{◌∙◌, flat_map}
use Rattle.net_reader.specs.declared.raw.RawRow.{RawRow}
use Rattle.net_names.specs.Places.{sooner, least_place}
use Rattle.rule_judge.specs.Rules.{unsuited, wrong_values}
use Rattle.rule_judge.proofs.conds.in_machine.Goals as goal

pub returns-clause-unsuited : goal.returns-clause-unsuited
returns-clause-unsuited c =
    let net = c.args.names.now.scope.now.raw.now in
    let m = c.args.names.now.machine.now in
    c.in_rows.ensures.unsuited
    ∙ (λ i. sooner c.args.found.unsuited
    (least_place (flat_map (λ (row : RawRow). flat_map (unsuited net m) row.conds)
    (c.as_slice.ensures i))))

pub returns-clause-valueless : goal.returns-clause-valueless
returns-clause-valueless c =
    let net = c.args.names.now.scope.now.raw.now in
    let m = c.args.names.now.machine.now in
    c.in_rows.ensures.valueless
    ∙ (λ i. sooner c.args.found.valueless
    (least_place (flat_map (λ (row : RawRow). flat_map (wrong_values net m) row.conds)
    (c.as_slice.ensures i))))
