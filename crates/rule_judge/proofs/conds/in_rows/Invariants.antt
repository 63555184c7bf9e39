-- What was found and what is left give what the whole gives.
use Rattle.std.proofs.Common.{◌≡◌, flat_map, drop}
use Rattle.net_reader.specs.declared.raw.RawRow.{RawRow}
use Rattle.net_names.specs.Places.{sooner, least_place}
use Rattle.rule_judge.specs.Rules.{unknown, unsuited, wrong_values}
use Rattle.rule_judge.proofs.conds.in_rows.Given as goal

abbrev pub invariant-loop-row : goal.invariant-loop-row
invariant-loop-row l =
    (sooner l.found.unknown
    (least_place (flat_map (λ (row : RawRow). flat_map (unknown l.names.machine.now) row.conds)
    (drop l.row-index l.rows))) ≡ sooner l.fn.found.unknown
    (least_place (flat_map (λ (row : RawRow). flat_map (unknown l.names.machine.now) row.conds)
    l.fn.rows)))
    × (sooner l.found.unsuited
    (least_place (flat_map
    (λ (row : RawRow). flat_map (unsuited l.names.scope.now.raw.now l.names.machine.now)
    row.conds) (drop l.row-index l.rows)))
    ≡ sooner l.fn.found.unsuited
    (least_place (flat_map
    (λ (row : RawRow). flat_map (unsuited l.names.scope.now.raw.now l.names.machine.now)
    row.conds) l.fn.rows)))
    × (sooner l.found.valueless
    (least_place (flat_map
    (λ (row : RawRow). flat_map (wrong_values l.names.scope.now.raw.now l.names.machine.now)
    row.conds) (drop l.row-index l.rows)))
    ≡ sooner l.fn.found.valueless
    (least_place (flat_map
    (λ (row : RawRow). flat_map (wrong_values l.names.scope.now.raw.now l.names.machine.now)
    row.conds) l.fn.rows)))
