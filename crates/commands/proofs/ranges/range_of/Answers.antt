use Rattle.machine_compiler.specs.Parts.{part_of_compiled}
use Rattle.commands.proofs.ranges.range_of.Goals as goal

pub returns : goal.returns
returns c =
    record {
      part = part_of_compiled c.in_ok-compiled.compiled;
      right = c.in_ok-compiled.ensures;
      most = c.in_ok-range.ensures.most;
      least = c.in_ok-range.ensures.least;
    }
