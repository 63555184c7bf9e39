-- What was found and what is left give what the whole gives.
use Rattle.std.proofs.Common.{◌≡◌, flat_map, drop}
use Rattle.net_reader.specs.declared.raw.RawRow.{RawRow}
use Rattle.net_names.specs.Places.{sooner, least_place}
use Rattle.rule_judge.proofs.act_rules.in_rows.Given as goal

abbrev pub invariant-loop-row : goal.invariant-loop-row
invariant-loop-row g l =
    sooner l.found (least_place
    (flat_map (λ (row : RawRow). flat_map
    (g.C.ActRule.places l.names.scope.now.raw.now l.names.machine.now row) row.acts)
    (drop l.row-index l.rows))) ≡ sooner l.fn.found
    (least_place (flat_map
    (λ (row : RawRow). flat_map
    (g.C.ActRule.places l.names.scope.now.raw.now l.names.machine.now row) row.acts) l.fn.rows))
