use Rattle.std.proofs.Common.{◌≡◌, ◌<◌, ◌≤◌, ⊎_elim, slice_get, Some, arith, ap, sym, ◌∙◌}
use Rattle.std.proofs.lemmas.Bool.{cases_lt}
use Rattle.std.proofs.lemmas.Option.{slice_get_within}
use Rattle.sgraph.specs.declared.vertex.Vertex.{Vertex}
use Rattle.sgraph.specs.declared.vertex.Vertex.TheVariants.{Assign}
use Rattle.machine_compiler.proofs.compiling.keep_graph.Goals as goal

some_vertex : (v w : Vertex) → Some v ≡ Some w → v ≡ w
some_vertex v w e = cc

pub loop-k-preserved : goal.loop-k-preserved
loop-k-preserved c = λ j y code next low is.
    let g = c.args.g.now in
    let k = c.loop-k.k in
    let here = λ (high : k ≤ j).
    let at : k ≡ j = omega arith in
    c.keep_byte.ensures y code next
    (some_vertex c.get.result.now (Assign y code next)
    (sym c.get.ensures ∙ ap (slice_get g) at ∙ is))
    in
    ⊎_elim (λ (before : j < k). c.loop-k.invariant j y code next before is) here (cases_lt j k)

pub returns-clause-bytes : goal.returns-clause-bytes
returns-clause-bytes c = λ j y code next is.
    let within = slice_get_within c.args.g.now j (Assign y code next) is in
    let end = c.loop-k-test.false in
    let long = c.len-k-end.ensures.len in
    c.loop-k.invariant j y code next (omega arith) is
