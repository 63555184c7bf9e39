use Rattle.std.proofs.Common.{◌≡◌, ◌<◌, ℕ, slice_get, Some}
use Rattle.sgraph.specs.declared.vertex.Vertex.TheVariants.{Assign}
use Rattle.machine_compiler.proofs.compiling.keep_graph.Given as goal

abbrev pub invariant-loop-k : goal.invariant-loop-k
invariant-loop-k l = (j y code next : ℕ) → j < l.k → slice_get l.g j ≡ Some (Assign y code next)
    → code < 256
