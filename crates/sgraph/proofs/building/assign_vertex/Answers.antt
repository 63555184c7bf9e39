use Rattle.std.proofs.Common.{◌≡◌, ◌∙◌, ◌+◌, ◌-◌, ◌<◌, ◌≤◌, ℕ, Bool, true, false, cond, map, length, nat_lt, slice_index, Option, None, Some, sym, ap, subst, arith, ◌==◌}
use Rattle.std.proofs.lemmas.Bool.{le-ltb}
use Rattle.std.proofs.lemmas.Option.{get_or_from_slice_get}
use Rattle.decision_diagram.specs.Diagrams.{Node, inner_at, kids_in, shape_in}
use Rattle.decision_diagram.specs.declared.node.Shape.TheVariants.{False, True, Inner}
use Rattle.sgraph.specs.declared.vertex.Vertex.TheVariants.{Assign, Test}
use Rattle.sgraph.specs.Building.{code_there, vertex_in}
use Rattle.sgraph.proofs.building.assign_vertex.Goals as goal

no_inner : (b : Bool) (var : ℕ) → cond b False True ≡ Inner var → ⊥
no_inner true var e = cc
no_inner false var e = cc

same_var : (a b : ℕ) → Inner a ≡ Inner b → a ≡ b
same_var a b e = cc

-- the vertex of a result's node
of_result : (n : ℕ) (number : ℕ → ℕ) (o : Option Node) (k var y code next : ℕ)
    → shape_in k o ≡ Inner var → n ≤ var → y ≡ var - n → code ≡ code_there (kids_in o)
    → next ≡ number (slice_index (kids_in o) code) → Assign y code next ≡ vertex_in n number o
of_result n number None k var y code next shape high y_is code_is next_is =
    absurd (no_inner (k == 0) var shape)
of_result n number (Some node) k var y code next shape high y_is code_is next_is =
    let same : node.var ≡ var = same_var node.var var shape in
    let off : nat_lt node.var n ≡ false = le-ltb node.var n (omega arith) in
    ap (λ (a : ℕ). Assign a code next) (y_is ∙ ap (λ (v : ℕ). v - n) (sym same))
    ∙ ap (λ (a : ℕ). Assign (node.var - n) a next) code_is
    ∙ ap (λ (a : ℕ). Assign (node.var - n) (code_there node.kids) a)
    (next_is ∙ ap (λ (i : ℕ). number (slice_index node.kids i)) code_is)
    ∙ sym (ap (λ (b : Bool). cond b (Test node.var (map number node.kids))
    (Assign (node.var - n) (code_there node.kids)
    (number (slice_index node.kids (code_there node.kids))))) off)

result_fits : (from var long : ℕ) → from ≡ var → var < 4294967296 → from - long < 4294967296
result_fits from var long is fits = omega arith

result_high : (from var long vars : ℕ) → from ≡ var → long ≡ vars → vars ≤ var → long ≤ from
result_high from var long vars is long_is high = omega arith

pub first_code-code-requires-clause-node : goal.first_code-code-requires-clause-node
first_code-code-requires-clause-node c = c.requires.node

pub first_code-code-requires-clause-shape : goal.first_code-code-requires-clause-shape
first_code-code-requires-clause-shape c = c.requires.shape

pub first_code-code-requires-clause-sizes : goal.first_code-code-requires-clause-sizes
first_code-code-requires-clause-sizes c = c.requires.sizes

pub child-requires-clause-node : goal.child-requires-clause-node
child-requires-clause-node c = c.requires.node

pub child-requires-clause-code : goal.child-requires-clause-code
child-requires-clause-code c = c.first_code-code.ensures.low

pub get-next-requires : goal.get-next-requires
get-next-requires c =
    subst (λ (n : ℕ). c.number.result < n) (sym c.requires.numbers)
    (subst (λ (k : ℕ). k < length c.args.store.now.nodes + 2) (sym c.number.ensures)
    c.child.ensures.node)

pub overflow_sub-y : goal.overflow_sub-y
overflow_sub-y c =
    result_high c.from.result c.args.var c.len.result (length c.args.m.now.vars) c.from.ensures
    c.len.ensures.len c.requires.var

pub overflow_cast-y : goal.overflow_cast-y
overflow_cast-y c = record {
  fits = result_fits c.from.result c.args.var c.len.result c.from.ensures c.ranges.var.fits;
}

pub returns : goal.returns
returns c =
    let numbers = c.args.numbers.now in
    of_result (length c.args.m.now.vars) (slice_index numbers)
    (inner_at c.args.store.now.nodes c.args.k) c.args.k c.args.var (c.from.result - c.len.result)
    c.first_code-code.result c.get-next.result.now c.requires.shape c.requires.var
    (ap (λ (k : ℕ). k - c.len.result) c.from.ensures
    ∙ ap (λ (k : ℕ). c.args.var - k) c.len.ensures.len)
    c.first_code-code.ensures.code
    (sym (get_or_from_slice_get numbers c.number.result c.get-next.result.now 0 c.get-next.ensures)
    ∙ ap (slice_index numbers) (c.number.ensures ∙ c.child.ensures.child))
