use Rattle.std.proofs.Common.{arith}
use Rattle.std.specs.List.{list_all}
use Rattle.std.proofs.lemmas.Bool.{and_from}
use Rattle.outcome_table.specs.inner.Needs.{asks_before, takes_before}
use Rattle.outcome_table.proofs.Ends.{asks_more, max_over, takes_more}
use Rattle.outcome_table.proofs.need.end_of.Goals as goal

pub returns-clause-settled : goal.returns-clause-settled
returns-clause-settled c =
    let inputs = c.args.machine.now.inputs in
    let row = c.args.row.now in
    let end = c.max.result in
    let is = c.max.ensures in
    let over = max_over c.end_of_conds-conds.result c.end_of_acts.result in
    and_from (list_all (asks_before end) row.conds) (list_all (takes_before inputs end) row.acts)
    (asks_more c.end_of_conds-conds.result end row.conds (omega arith)
    (rw c.as_slice.ensures at c.end_of_conds-conds.ensures.settled))
    (takes_more inputs c.end_of_acts.result end row.acts (omega arith)
    (rw c.as_slice-2.ensures at c.end_of_acts.ensures.settled))
