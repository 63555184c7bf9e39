use Rattle.std.proofs.Common.{◌+◌, vec_len, arith}
use Rattle.outcome_table.proofs.ListMaps.{resized}
use Rattle.outcome_table.proofs.number.push_times.Goals as goal

pub returns : goal.returns
returns c =
    let old = c.args.numbers.now in
    let long = old.ok.0 in
    let len = c.len.ensures in
    resized old.items c.resize.new.self.items (c.len.result + c.args.times) (vec_len old)
    c.args.times c.args.number (omega arith) (omega arith) c.in_ok-resize.ensures.items
