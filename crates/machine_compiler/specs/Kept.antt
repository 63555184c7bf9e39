-- What is kept of the machines of a network, each compiled by itself.
use Rattle.std.specs.Prelude.{◌≡◌, List}
use Rattle.transition_table.specs.declared.network.Network.{Network}
use Rattle.task_code.specs.declared.instr.Instr.{Instr}
use Rattle.task_code.specs.Listings.{Part}
use Rattle.machine_compiler.specs.Parts.{AreRightParts, codes_in, graphs_in}
use Rattle.machine_compiler.specs.Lines.{lengths_text}
use Rattle.machine_compiler.specs.declared.kept.Graphs.{Graphs}

-- each machine was compiled rightly, and the codes are those of the parts
pub record AreCodes (net : Network) (codes : List (List Instr)) : Type 0 where
  pub parts : List Part
  pub right : AreRightParts net parts
  pub codes_are : codes ≡ codes_in parts

-- so with the graphs, and the lines of lengths are those of the parts
pub record AreGraphs (net : Network) (made : Graphs) : Type 0 where
  pub parts : List Part
  pub right : AreRightParts net parts
  pub graphs_are : made.graphs ≡ graphs_in parts
  pub lengths_are : made.lengths ≡ lengths_text net parts
