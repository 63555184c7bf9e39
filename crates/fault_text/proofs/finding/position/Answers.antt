use Rattle.std.proofs.Common.{take, arith, length-take}
use Rattle.std.proofs.lemmas.List.Sums.{suffix_len-le-length}
use Rattle.fault_text.specs.Positions.{is_inner}
use Rattle.fault_text.proofs.finding.position.Goals as goal

pub overflow_add-result-2 : goal.overflow_add-result-2
overflow_add-result-2 c =
    let short = suffix_len-le-length is_inner (take c.args.place c.args.text.now) in
    let len = length-take c.args.place c.args.text.now in
    grind (arith, short, len, c.last_line_len.ensures)
