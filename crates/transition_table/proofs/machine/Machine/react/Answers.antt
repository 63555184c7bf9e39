use Rattle.std.proofs.Common.{inr, ◌∙◌}
use Rattle.transition_table.proofs.Ranges.{acts_of, row_there}
use Rattle.transition_table.proofs.Rows.{blank_of}
use Rattle.transition_table.proofs.machine.Machine.react.Goals as goal

pub returns-in-None : goal.returns-in-None
returns-in-None c =
    inr (
      c.in-None.ensures.none,
      c.write-in-None.ensures
          ∙ blank_of c.args.self.now c.args.s.now.codes,
    )

pub write-requires-clause-actions : goal.write-requires-clause-actions
write-requires-clause-actions c =
    let m = c.args.self.now in
    rw c.as_slice.ensures
    (acts_of m.inputs m.vars m.results c.get.result.now
    (row_there m.inputs m.vars m.results m.rows c.in-Some.r c.get.result.now m.fitting_rows
    c.get.ensures))
