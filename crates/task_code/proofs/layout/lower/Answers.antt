use Rattle.std.proofs.Common.{◌≡◌, ◌∙◌, length, slice_index, arith, sym, refl, subst, ap}
use Rattle.task_code.specs.Codes.{start, given_by}
use Rattle.sgraph.specs.Graphs.{kids_of}
use Rattle.task_code.specs.Facts.{IsCode, OnceCode}
use Rattle.task_code.proofs.LaidOut.{laid, same_given}
use Rattle.task_code.proofs.Starts.{long_starts, start_at, one_vertex, all_vertices}
use Rattle.sgraph.proofs.RightGraphs.{numbered_goes_on}
use Rattle.task_code.proofs.LayoutIsCode.{is_code}
use Rattle.task_code.proofs.CodePaths.{once_code}
use Rattle.task_code.proofs.Lowered.{lowered_same}
use Rattle.task_code.proofs.layout.lower.Goals as goal

pub loop-k-init : goal.loop-k-init
loop-k-init c = rw c.new-code.ensures refl

pub push_vertex-requires-clause-kids : goal.push_vertex-requires-clause-kids
push_vertex-requires-clause-kids c = λ j low.
    let long = long_starts c.args.g.now c.in_ok-places.places c.in_ok-places.ensures in
    let within = c.len-k-end.ensures.graph.within c.loop-k.k c.get.result.now j c.get.ensures low in
    omega arith

pub loop-k-preserved : goal.loop-k-preserved
loop-k-preserved c =
    let g = c.args.g.now in
    let same : given_by (slice_index c.in_ok-places.places) c.loop-k.k c.get.result.now
    ≡ given_by (start g) c.loop-k.k c.get.result.now =
    same_given (slice_index c.in_ok-places.places) (start g) c.loop-k.k c.get.result.now
    (λ j low. start_at g c.in_ok-places.places (slice_index (kids_of c.get.result.now) j)
    c.in_ok-places.ensures
    (c.len-k-end.ensures.graph.within c.loop-k.k c.get.result.now j c.get.ensures low))
    in
    one_vertex (start g) g c.loop-k.code c.push_vertex.new.code (laid g) c.loop-k.k c.get.result.now
    c.loop-k.invariant c.get.ensures (rw (← same) c.in_ok-push_vertex.ensures)

pub of-requires : goal.of-requires
of-requires c =
    let g = c.args.g.now in
    let long = c.len-k-end.ensures.len in
    let stop = c.loop-k-test.false in
    let e : c.shrink.new.self ≡ laid g = c.shrink.ensures
    ∙ all_vertices (start g) g c.loop-k.code (laid g) c.loop-k.k c.loop-k.invariant
    (omega arith) in
    let few = c.if-len-gt-CODE_MAX.false in
    let count = c.len.ensures in
    let long : length c.shrink.new.self ≡ length (laid g) = ap length e in
    subst IsCode (sym e) (is_code g c.len-k-end.ensures.graph (omega arith))

pub returns-clause-lowered : goal.returns-clause-lowered
returns-clause-lowered c =
    let g = c.args.g.now in
    let long = c.len-k-end.ensures.len in
    let stop = c.loop-k-test.false in
    c.of.ensures ∙ c.shrink.ensures
    ∙ all_vertices (start g) g c.loop-k.code (laid g) c.loop-k.k c.loop-k.invariant
    (omega arith)

pub returns-clause-same : goal.returns-clause-same
returns-clause-same c = λ m s.
    let g = c.args.g.now in
    let long = c.len-k-end.ensures.len in
    let stop = c.loop-k-test.false in
    let e : c.of.result ≡ laid g = c.of.ensures ∙ c.shrink.ensures
    ∙ all_vertices (start g) g c.loop-k.code (laid g) c.loop-k.k c.loop-k.invariant
    (omega arith) in
    lowered_same m g c.of.result s (numbered_goes_on g c.len-k-end.ensures.graph c.requires) e

pub returns-clause-once : goal.returns-clause-once
returns-clause-once c = λ once.
    let g = c.args.g.now in
    let long = c.len-k-end.ensures.len in
    let stop = c.loop-k-test.false in
    let e : c.of.result ≡ laid g = c.of.ensures ∙ c.shrink.ensures
    ∙ all_vertices (start g) g c.loop-k.code (laid g) c.loop-k.k c.loop-k.invariant
    (omega arith) in
    subst OnceCode (sym e) (once_code g (numbered_goes_on g c.len-k-end.ensures.graph c.requires) once)
