use Rattle.std.proofs.Common.{◌<◌, ◌-◌, subst, ℕ, arith}
use Rattle.decision_diagram.proofs.ListItems.{read_within}
use Rattle.sgraph.proofs.NextNodes.{got}
use Rattle.sgraph.proofs.GraphOf.{numbers_end, numbers_more, numbers_start}
use Rattle.sgraph_opt.proofs.numbering.numbers_of.Goals as goal

pub loop-i-init : goal.loop-i-init
loop-i-init c =
    numbers_start c.args.count c.len-len.result 0 c.args.left.now c.in_ok-numbers.numbers
    c.in_ok-numbers.ensures

pub loop-i-preserved : goal.loop-i-preserved
loop-i-preserved c =
    let left = c.args.left.now in
    let i = c.loop-i.i in
    let k = c.get.result.now in
    let own = c.requires i (read_within left i k c.get.ensures) in
    let low = subst (λ (k : ℕ). k < c.args.count) (got left i k c.get.ensures) own in
    let within = c.loop-i-test.true in
    numbers_more c.args.count c.len-len.result 0 left c.loop-i.numbers c.set.new.self i k
    (c.len-len.result - i - 1) c.loop-i.invariant c.get.ensures low (omega arith) c.set.ensures

pub returns-clause-each : goal.returns-clause-each
returns-clause-each c k in_list =
    let high = c.loop-i-test.false in
    let low = c.loop-i.auto.i-end in
    let is = numbers_end c.args.count c.len-len.result 0 c.args.left.now c.loop-i.numbers c.loop-i.i
    c.loop-i.invariant c.len-len.ensures (omega arith) k in_list in
    omega arith
