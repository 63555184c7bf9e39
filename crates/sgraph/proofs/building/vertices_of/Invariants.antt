use Rattle.std.proofs.Common.{◌≡◌, ◌∷◌, map, slice_index, drop, length}
use Rattle.decision_diagram.specs.Diagrams.{inner_at}
use Rattle.sgraph.specs.declared.vertex.Vertex.TheVariants.{Begin}
use Rattle.sgraph.specs.Building.{vertex_in}
use Rattle.sgraph.specs.inner.Marks.{turned}
use Rattle.sgraph.proofs.building.vertices_of.Given as goal

abbrev pub invariant-loop-i : goal.invariant-loop-i
invariant-loop-i l = l.vertices ≡ Begin 1
    ∷ map (λ k. vertex_in (length l.m.vars) (slice_index l.numbers) (inner_at l.store.nodes k))
    (turned (drop l.i l.left))
