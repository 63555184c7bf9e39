use Rattle.std.proofs.Common.{◌∙◌, List, [], ℕ, length, slice_get, ap}
use Rattle.outcome_table.proofs.RowsLeft.{first_below}
use Rattle.outcome_table.proofs.RowSets.{rows_twice}
use Rattle.outcome_table.proofs.number.number_every.Goals as goal

pub end_left-requires : goal.end_left-requires
end_left-requires c =
    first_below c.args.narrowing.now.machine.now [] c.first_of_both-first.result
    (length c.args.narrowing.now.ends.now)
    (c.first_of_both-first.ensures
    ∙ ap (λ (xs : List ℕ). slice_get xs 0) (rows_twice c.args.rows.now ∙ c.requires.rows))
    c.args.narrowing.now.are_ends.long

pub number_all-requires-clause-first : goal.number_all-requires-clause-first
number_all-requires-clause-first c =
    c.first_of_both-first.ensures
    ∙ ap (λ (xs : List ℕ). slice_get xs 0) (rows_twice c.args.rows.now ∙ c.requires.rows)
