use Rattle.std.proofs.Common.{◌∙◌, subst, sym, arith}
use Rattle.sgraph.specs.Facts.{IsGraph}
use Rattle.sgraph_opt.specs.inner.Renumbering.{replaced}
use Rattle.sgraph_opt.specs.Smaller.{Keeps}
use Rattle.sgraph_opt.proofs.VerticesLeft.{all_inside, is_numbered_of}
use Rattle.sgraph_opt.proofs.Keeps.{is_graph, keeps}
use Rattle.sgraph_opt.proofs.Replaced.{long_replaced}
use Rattle.sgraph_opt.proofs.Standing.{some_vertex, rises}
use Rattle.sgraph_opt.proofs.numbering.renumbered.Goals as goal

pub numbers_of-requires : goal.numbers_of-requires
numbers_of-requires c = λ i low.
    let g = c.args.g.now in
    let reps = c.args.reps.now in
    let ok = c.len-count.ensures.graph in
    let len = c.len-count.ensures.len in
    let long = long_replaced g reps in
    let inside = all_inside (replaced g reps) (rises g ok reps c.requires)
    (some_vertex g ok reps c.requires) c.in_ok-left.left c.in_ok-left.ensures i low in
    omega arith

pub arrange-requires : goal.arrange-requires
arrange-requires c =
    let g = c.args.g.now in
    let reps = c.args.reps.now in
    let ok = c.len-count.ensures.graph in
    let len = c.len-count.ensures.len in
    let long = long_replaced g reps in
    let each = c.in_ok-numbers.ensures.long in
    record {
      graph = ok;
      stands = c.requires;
      left = λ i low.
          let inside = all_inside (replaced g reps) (rises g ok reps c.requires)
          (some_vertex g ok reps c.requires) c.in_ok-left.left c.in_ok-left.ensures i low in
          omega arith;
      numbers = omega arith;
    }

pub of-requires : goal.of-requires
of-requires c =
    let g = c.args.g.now in
    let reps = c.args.reps.now in
    let ok = c.len-count.ensures.graph in
    subst IsGraph (sym (is_numbered_of (replaced g reps) (rises g ok reps c.requires)
    (some_vertex g ok reps c.requires) c.in_ok-left.left c.in_ok-numbers.numbers
    c.in_ok-vertices.vertices c.in_ok-left.ensures c.in_ok-numbers.ensures.each
    c.in_ok-vertices.ensures))
    (is_graph g reps ok c.requires)

pub returns : goal.returns
returns c =
    let g = c.args.g.now in
    let reps = c.args.reps.now in
    let ok = c.len-count.ensures.graph in
    let same = c.of.ensures
    ∙ is_numbered_of (replaced g reps) (rises g ok reps c.requires)
    (some_vertex g ok reps c.requires) c.in_ok-left.left c.in_ok-numbers.numbers
    c.in_ok-vertices.vertices c.in_ok-left.ensures c.in_ok-numbers.ensures.each
    c.in_ok-vertices.ensures in
    record {
      list = same;
      keeps = subst (Keeps g) (sym same) (keeps g reps ok c.requires);
    }
