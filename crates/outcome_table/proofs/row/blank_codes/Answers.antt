use Rattle.std.proofs.Common.{◌∙◌, length, replicate, ap}
use Rattle.outcome_table.proofs.Rows.{zeros_apart}
use Rattle.outcome_table.proofs.row.blank_codes.Goals as goal

pub returns : goal.returns
returns c =
    let m = c.args.machine.now in
    c.in_ok-codes.ensures
    ∙ ap (λ n. replicate n 0) c.from.ensures
    ∙ zeros_apart c.result_count.result (length m.states) (length m.outputs)
    c.result_count.ensures.count
