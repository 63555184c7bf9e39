use Rattle.std.proofs.Common.{◌≡◌, ◌∙◌, length, arith}
use Rattle.machine_compiler.specs.Parts.{IsRightPart, part_of_compiled}
use Rattle.machine_compiler.proofs.RightParts.{more_paired, length_push, all_right}
use Rattle.machine_compiler.proofs.compiling.compile_network.Goals as goal

pub loop-k-preserved : goal.loop-k-preserved
loop-k-preserved c =
    let ms = c.args.net.now.machines in
    record {
      right = more_paired (λ m x. IsRightPart m (part_of_compiled x)) ms c.loop-k.compiled c.push.new.self
          c.loop-k.k c.get.result.now c.in_ok-part.part c.loop-k.invariant.right
          c.loop-k.invariant.long c.in_ok-push.ensures.ok c.get.ensures c.in_ok-part.ensures;
      long = length_push c.loop-k.compiled c.push.new.self c.in_ok-part.part c.loop-k.k
          c.loop-k.invariant.long c.in_ok-push.ensures.ok;
    }

pub returns : goal.returns
returns c =
    let end = c.loop-k-test.false in
    let within = c.loop-k.auto.k-end in
    let long = c.len-k-end.ensures in
    let all : c.loop-k.k ≡ length c.args.net.now.machines = omega arith in
    all_right c.args.net.now c.loop-k.compiled c.loop-k.invariant.right
    (c.loop-k.invariant.long ∙ all)
