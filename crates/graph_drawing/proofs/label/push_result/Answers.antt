use Rattle.std.proofs.Common.{◌-◌, length, sym, arith}
use Rattle.std.proofs.lemmas.List.{append-nil}
use Rattle.std.proofs.lemmas.Option.{slice_get_past}
use Rattle.graph_drawing.proofs.label.push_result.Goals as goal

pub returns-else-k-states-2 : goal.returns-else-k-states-2
returns-else-k-states-2 c =
    let states = c.len-states.ensures in
    let outputs = c.len.ensures in
    let high = c.if-k-states.false in
    let higher = c.if-k-states-2.false in
    let m = c.args.machine.now in
    rw (
      slice_get_past m.states c.args.k (omega arith),
      slice_get_past m.outputs (c.args.k - length m.states) (omega arith),
    )
    (sym (append-nil c.args.into.now))
