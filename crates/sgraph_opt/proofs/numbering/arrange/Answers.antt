use Rattle.std.proofs.Common.{◌≡◌, ◌+◌, ◌-◌, ◌∙◌, ap, drop, map, refl, slice_index, ℕ, arith}
use Rattle.sgraph.specs.declared.vertex.Vertex.{Vertex}
use Rattle.sgraph.specs.Graphs.{kids_of}
use Rattle.sgraph.specs.inner.Marks.{turned}
use Rattle.sgraph_opt.specs.inner.Representatives.{renamed}
use Rattle.sgraph_opt.specs.inner.Renumbering.{replaced, vertex_at}
use Rattle.sgraph_opt.proofs.VerticesLeft.{one_vertex}
use Rattle.sgraph_opt.proofs.Replaced.{vertex_again, kid_low, rep_low}
use Rattle.sgraph_opt.proofs.numbering.arrange.Goals as goal

pub rename-requires : goal.rename-requires
rename-requires c =
    let numbers = c.requires.numbers in
    record {
      within = kid_low c.args.g.now c.args.reps.now c.get-k.result.now c.get.result.now
          (kids_of c.get.result.now) c.get.ensures refl c.requires.graph
          c.requires.stands;
      reps = λ j low.
          let inside = rep_low c.args.g.now c.args.reps.now c.get-k.result.now
          c.get.result.now (kids_of c.get.result.now) c.get.ensures
          refl c.requires.graph c.requires.stands j low in
          omega arith;
    }

pub loop-i-preserved : goal.loop-i-preserved
loop-i-preserved c =
    let f : ℕ → Vertex = λ k. renamed (slice_index c.args.numbers.now)
    (vertex_at (replaced c.args.g.now c.args.reps.now) k) in
    let some = c.loop-i-test.true in
    let e : c.loop-i.i ≡ c.loop-i.i - 1 + 1 = omega arith in
    one_vertex f c.args.left.now c.loop-i.vertices c.push.new.self (c.loop-i.i - 1)
    c.get-k.result.now c.in_ok-v.v
    (c.loop-i.invariant ∙ ap (λ (j : ℕ). map f (turned (drop j c.args.left.now))) e) c.get-k.ensures
    (vertex_again c.args.g.now c.args.reps.now c.args.numbers.now c.get-k.result.now
    c.get.result.now c.in_ok-v.v c.get.ensures c.in_ok-v.ensures)
    c.in_ok-push.ensures.ok
