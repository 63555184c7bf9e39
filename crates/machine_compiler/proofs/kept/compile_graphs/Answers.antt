use Rattle.std.proofs.Common.{◌≡◌, length, arith}
use Rattle.machine_compiler.specs.Parts.{part_of_compiled}
use Rattle.machine_compiler.proofs.AreGraphs.{nothing_kept, one_kept, all_kept}
use Rattle.machine_compiler.proofs.kept.compile_graphs.Goals as goal

pub loop-k-init : goal.loop-k-init
loop-k-init c =
    nothing_kept c.args.net.now c.new-graphs.result c.new-lengths.result c.new-graphs.ensures
    c.new-lengths.ensures

pub loop-k-preserved : goal.loop-k-preserved
loop-k-preserved c =
    one_kept c.args.net.now c.loop-k.k c.loop-k.graphs c.push.new.self c.loop-k.lengths
    c.push_lengths_line.new.out c.get-machine.result.now (part_of_compiled c.in_ok-part.part)
    c.loop-k.invariant c.get-machine.ensures c.in_ok-part.ensures c.in_ok-push.ensures.ok
    c.in_ok-push_lengths_line.ensures

pub returns : goal.returns
returns c =
    let net = c.args.net.now in
    let all : c.loop-k.k ≡ length net.machines = let a = c.loop-k-test.false in
    let b = c.loop-k.auto.k-end in let d = c.len-k-end.ensures in omega arith in
    all_kept net c.loop-k.k c.loop-k.graphs c.loop-k.lengths c.loop-k.invariant all
