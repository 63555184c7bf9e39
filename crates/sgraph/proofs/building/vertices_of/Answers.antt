use Rattle.std.proofs.Common.{◌≡◌, ◌+◌, ◌-◌, ◌<◌, ◌≤◌, ◌∙◌, ap, sym, subst, slice_index, drop, map, length, List, ℕ, arith, [], ◌∷◌, ◌++◌}
use Rattle.std.proofs.lemmas.Option.{get_or_from_slice_get}
use Rattle.decision_diagram.specs.Diagrams.{inner_at}
use Rattle.sgraph.specs.declared.vertex.Vertex.{Vertex}
use Rattle.sgraph.specs.declared.vertex.Vertex.TheVariants.{Begin}
use Rattle.sgraph.specs.Building.{vertex_in}
use Rattle.sgraph.specs.inner.Marks.{turned}
use Rattle.sgraph.proofs.GraphOf.{drop_whole, one_vertex}
use Rattle.sgraph.proofs.building.vertices_of.Goals.{In-loop-i}
use Rattle.sgraph.proofs.building.vertices_of.Goals as goal

whole : (end long : ℕ) → end ≡ long → long ≤ end
whole end long is = omega arith

before_end : (i end long : ℕ) → 0 < i → i ≤ end → end ≡ long → i - 1 < long
before_end i end long some low is = omega arith

some_before : (i : ℕ) → 0 < i → 1 ≤ i
some_before i some = omega arith

none_before : (i : ℕ) → i ≤ 0 → i ≡ 0
none_before i none = omega arith

low_here : (c : In-loop-i) → c.loop-i.i - 1 < length c.args.left.now
low_here c =
    before_end c.loop-i.i c.len-i.result (length c.args.left.now) c.loop-i-test.true
    c.loop-i.auto.i c.len-i.ensures

pub loop-i-init : goal.loop-i-init
loop-i-init c =
    let f : ℕ → Vertex =
    λ k. vertex_in (length c.args.m.now.vars) (slice_index c.args.numbers.now)
    (inner_at c.args.store.now.nodes k) in
    let left = c.args.left.now in
    c.in_ok-push.ensures.ok
    ∙ ap (λ (vs : List Vertex). vs ++ Begin 1 ∷ []) c.in_ok-vertices.ensures
    ∙ ap (λ (xs : List ℕ). Begin 1 ∷ map f (turned xs))
    (sym (drop_whole left c.len-i.result (whole c.len-i.result (length left) c.len-i.ensures)))

pub get-requires : goal.get-requires
get-requires c = low_here (goal.at.get-requires c).In-loop-i

pub overflow_step-i : goal.overflow_step-i
overflow_step-i c = some_before c.loop-i.i c.loop-i-test.true

pub vertex-requires-clause-sizes : goal.vertex-requires-clause-sizes
vertex-requires-clause-sizes c = c.requires.sizes

pub vertex-requires-clause-numbers : goal.vertex-requires-clause-numbers
vertex-requires-clause-numbers c = c.requires.numbers

pub vertex-requires-clause-node : goal.vertex-requires-clause-node
vertex-requires-clause-node c =
    let left = c.args.left.now in
    let k = c.loop-i.i - 1 in
    subst (λ (n : ℕ). n < length c.args.store.now.nodes + 2)
    (get_or_from_slice_get left k c.get.result.now 0 c.get.ensures)
    (c.requires.nodes k (low_here (goal.at.vertex-requires-clause-node c).In-loop-i))

pub loop-i-preserved : goal.loop-i-preserved
loop-i-preserved c =
    let f : ℕ → Vertex =
    λ k. vertex_in (length c.args.m.now.vars) (slice_index c.args.numbers.now)
    (inner_at c.args.store.now.nodes k) in
    let some = c.loop-i-test.true in
    let e : c.loop-i.i ≡ c.loop-i.i - 1 + 1 = omega arith in
    one_vertex f c.args.left.now c.loop-i.vertices c.push-in-loop-i.new.self (c.loop-i.i - 1)
    c.get.result.now c.in_ok-v.v
    (c.loop-i.invariant ∙ ap (λ (j : ℕ). Begin 1 ∷ map f (turned (drop j c.args.left.now))) e)
    c.get.ensures c.in_ok-v.ensures c.in_ok-push-2.ensures.ok

pub returns : goal.returns
returns c =
    let f : ℕ → Vertex =
    λ k. vertex_in (length c.args.m.now.vars) (slice_index c.args.numbers.now)
    (inner_at c.args.store.now.nodes k) in
    c.loop-i.invariant
    ∙ ap (λ (k : ℕ). Begin 1 ∷ map f (turned (drop k c.args.left.now)))
    (none_before c.loop-i.i c.loop-i-test.false)
