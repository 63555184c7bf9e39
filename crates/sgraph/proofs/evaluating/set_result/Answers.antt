use Rattle.std.proofs.Common.{◌-◌, arith}
use Rattle.sgraph.proofs.Outcomes.{gave_next, gave_out}
use Rattle.sgraph.proofs.evaluating.set_result.Goals as goal

pub returns-then-k-states-clause-set : goal.returns-then-k-states-clause-set
returns-then-k-states-clause-set c = λ codes long is.
    let from = c.from-k.ensures in
    let some = c.if-y-eq0.false in
    let low = c.if-k-states.true in
    let states = c.len-states.ensures in
    gave_next c.args.o.now c.args.y (c.from-k.result - 1) c.args.code c.set.new.self codes long is
    (omega arith) (omega arith) c.set.ensures

pub returns-else-k-states-clause-set : goal.returns-else-k-states-clause-set
returns-else-k-states-clause-set c = λ codes long is.
    let from = c.from-k.ensures in
    let some = c.if-y-eq0.false in
    let high = c.if-k-states.false in
    let states = c.len-states.ensures in
    gave_out c.args.o.now c.args.y (c.from-k.result - 1 - c.len-states.result) c.args.code
    c.set-else-k-states.new.self codes long is (omega arith) c.set-else-k-states.ensures
