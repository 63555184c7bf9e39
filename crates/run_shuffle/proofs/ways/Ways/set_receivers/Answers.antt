use Rattle.std.proofs.Common.{ℕ, List, ap, sym, ◌∙◌, arith}
use Rattle.std.specs.List.{sum_by}
use Rattle.run_shuffle.specs.inner.Ways.{how_many}
use Rattle.run_shuffle.proofs.RowSums.{row_replaced, row_within, rows_few}
use Rattle.run_shuffle.proofs.ways.Ways.set_receivers.Goals as goal

pub overflow_sub-self : goal.overflow_sub-self
overflow_sub-self c =
    let ways = c.args.self.now in
    row_within ways.sends c.args.sender c.get.result.now c.len-before.result ways.owed
    c.get.ensures c.len-before.ensures.members c.requires.owed

pub overflow_add-self : goal.overflow_add-self
overflow_add-self c =
    let ways = c.args.self.now in
    let few = rows_few ways.sends ways.owed c.requires.few c.requires.owed in
    let one = c.len.ensures.few in
    omega (arith, few, one)

pub returns-clause-owed : goal.returns-clause-owed
returns-clause-owed c =
    let ways = c.args.self.now in
    row_replaced ways.sends c.args.sender c.get.result.now c.len-before.result ways.owed
    c.len.result c.args.receivers c.get.ensures c.len-before.ensures.members c.requires.owed
    c.len.ensures.members
    ∙ ap (λ (l : List ℕ). sum_by how_many l) (sym c.set.ensures)
