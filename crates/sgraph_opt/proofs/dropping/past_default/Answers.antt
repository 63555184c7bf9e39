use Rattle.std.proofs.Common.{◌<◌, ◌∙◌, ap, arith, length, Some}
use Rattle.sgraph.specs.declared.vertex.Vertex.{Vertex}
use Rattle.sgraph.specs.declared.vertex.Vertex.TheVariants.{Assign}
use Rattle.sgraph_opt.proofs.DroppedDefaults.{left_out}
use Rattle.sgraph_opt.proofs.dropping.past_default.Goals as goal

pub get-requires : goal.get-requires
get-requires c =
    let within : c.in-Assign.next < length c.args.g.now =
    c.len.ensures.graph.within c.args.k
    (Assign c.in-Assign.result c.in-Assign.code c.in-Assign.next) 0
    (c.get-v.ensures ∙ ap (λ (v : Vertex). Some v) c.in-Assign.is) (omega arith) in
    let long = c.requires.long in
    omega arith

pub returns-then-code-eq0 : goal.returns-then-code-eq0
returns-then-code-eq0 c =
    λ v is. left_out c.args.g.now c.args.reps.now c.args.k c.get.result.now v c.get-v.result.now
    c.in-Assign.result c.in-Assign.code c.in-Assign.next is c.get-v.ensures c.in-Assign.is
    c.if-code-eq0.true c.get.ensures
