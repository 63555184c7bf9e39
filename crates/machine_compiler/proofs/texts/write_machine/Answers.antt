use Rattle.machine_compiler.specs.Parts.{part_of_compiled}
use Rattle.machine_compiler.proofs.texts.write_machine.Goals as goal

pub returns : goal.returns
returns c = record {
  part = part_of_compiled c.in_ok-part.part;
  right = c.in_ok-part.ensures;
  listed = c.in_ok-write_part.ensures.listing;
  measured = c.in_ok-write_part.ensures.lines;
}
