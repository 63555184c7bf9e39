use Rattle.std.proofs.Common.{◌∙◌, ◌++◌, List, ℕ, map, arith, ap, []}
use Rattle.transition_table.specs.Computed.{result_codes}
use Rattle.outcome_table.specs.inner.Numbering.{lists_after}
use Rattle.outcome_table.specs.Outcomes.{named}
use Rattle.polis_base.specs.Sets.{members_of}
use Rattle.outcome_table.proofs.NumberedOutcomes.{lists_all}
use Rattle.outcome_table.proofs.Rows.{few_rows}
use Rattle.outcome_table.proofs.BeginWithRows.{all_rows, begin}
use Rattle.outcome_table.proofs.number.numbers_by.Goals as goal

pub first-rows-requires : goal.first-rows-requires
first-rows-requires c =
    let few = few_rows c.args.narrowing.now.machine.now in
    let long = c.row_count.ensures.count in
    omega arith

pub number_every-requires-clause-rows : goal.number_every-requires-clause-rows
number_every-requires-clause-rows c =
    all_rows c.args.narrowing.now.machine.now (members_of c.first-rows.result) c.row_count.result
    c.first-rows.ensures.members
    c.row_count.ensures.count

pub number_every-requires-clause-begins : goal.number_every-requires-clause-begins
number_every-requires-clause-begins c =
    rw c.of.ensures (begin c.args.narrowing.now.machine.now c.in_ok-first_codes.field-0
    c.args.narrowing.now.fixed.now
    c.in_ok-row_outcomes.field-0 c.in_ok-row_outcomes.ensures c.requires.fixed)

pub returns-clause-results : goal.returns-clause-results
returns-clause-results c =
    let m = c.args.narrowing.now.machine.now in
    c.in_ok-number_every.ensures.results
    ∙ ap (λ (xs : List ℕ). named c.of.result xs
    ++ map (result_codes m) (lists_after [] m.vars)) c.in_ok-with_capacity.ensures.items
    ∙ ap (map (result_codes c.args.narrowing.now.machine.now)) (lists_all
    c.args.narrowing.now.machine.now.vars)
