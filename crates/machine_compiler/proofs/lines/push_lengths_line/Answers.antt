use Rattle.std.proofs.Common.{◌∷◌, []}
use Rattle.machine_compiler.specs.Lines.{lengths}
use Rattle.machine_compiler.specs.Parts.{part_of_compiled}
use Rattle.machine_compiler.proofs.lines.push_lengths_line.Goals as goal
use Rattle.polis_base.proofs.Places.{append_twice}

pub returns : goal.returns
returns c =
    append_twice c.args.out.now c.push_lengths.new.out c.push.new.self
    (lengths c.args.machine.now (part_of_compiled c.args.part.now)) (10 ∷ [])
    c.in_ok-push_lengths.ensures c.in_ok-push.ensures.ok
