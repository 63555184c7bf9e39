use Rattle.std.proofs.Common.{◌≡◌, ◌∙◌, ◌+◌, ◌<◌, ◌≤◌, ℕ, List, ◌++◌, length, slice_get, slice_index, Some, sym, ap, subst, arith}
use Rattle.std.proofs.lemmas.List.{get_or_append_left}
use Rattle.std.proofs.lemmas.Option.{get_or_from_slice_get}
use Rattle.decision_diagram.specs.Diagrams.{kids_of}
use Rattle.sgraph.proofs.GraphOf.{long_zeros}
use Rattle.sgraph.proofs.MapItems.{is_map, kids_more}
use Rattle.sgraph.proofs.building.kid_numbers.Goals.{After-from-2}
use Rattle.sgraph.proofs.building.kid_numbers.Goals as goal

-- a variable has a child for each of its codes
sized : (vars results sizes : List ℕ) (var from size long : ℕ) → long ≡ slice_index sizes var
    → sizes ≡ vars ++ results → var < length vars → from ≡ var → slice_get vars from ≡ Some size
    → long ≡ size
sized vars results sizes var from size long kids all low is got =
    kids ∙ ap (λ (xs : List ℕ). slice_index xs var) all
    ∙ get_or_append_left vars results 0 var low
    ∙ ap (slice_index vars) (sym is)
    ∙ get_or_from_slice_get vars from size 0 got

sized_here : (c : After-from-2)
    → length (kids_of c.args.store.now c.args.k) ≡ c.get-size.result.now
sized_here c =
    sized c.args.m.now.vars c.args.m.now.results c.args.store.now.sizes c.args.var c.from.result
    c.get-size.result.now (length (kids_of c.args.store.now c.args.k))
    (c.shape.ensures.kids c.args.var (c.shape.ensures.shape ∙ c.requires.shape)) c.requires.sizes
    c.requires.var c.from.ensures c.get-size.ensures

pub get-size-requires : goal.get-size-requires
get-size-requires c =
    subst (λ (k : ℕ). k < length c.args.m.now.vars) (sym c.from.ensures) c.requires.var

pub loop-code-init : goal.loop-code-init
loop-code-init c = record {
  long = ap (λ (xs : List ℕ). length xs) c.in_ok-list.ensures
      ∙ long_zeros c.from-2.result ∙ c.from-2.ensures;
  each = λ j low. absurd (omega arith);
}

pub child-requires-clause-node : goal.child-requires-clause-node
child-requires-clause-node c = c.requires.node

pub child-requires-clause-code : goal.child-requires-clause-code
child-requires-clause-code c =
    subst (λ (n : ℕ). c.loop-code.code < n)
    (sym (sized_here (goal.at.child-requires-clause-code c).After-from-2)) c.loop-code-test.true

pub get-number-requires : goal.get-number-requires
get-number-requires c =
    subst (λ (n : ℕ). c.number.result < n) (sym c.requires.numbers)
    (subst (λ (k : ℕ). k < length c.args.store.now.nodes + 2) (sym c.number.ensures)
    c.child.ensures.node)

pub set-requires : goal.set-requires
set-requires c =
    subst (λ (n : ℕ). c.from-in-loop-code.result < n) (sym c.loop-code.invariant.long)
    (subst (λ (k : ℕ). k < c.get-size.result.now) (sym c.from-in-loop-code.ensures)
    c.loop-code-test.true)

pub loop-code-preserved : goal.loop-code-preserved
loop-code-preserved c =
    let numbers = c.args.numbers.now in
    kids_more numbers (kids_of c.args.store.now c.args.k) c.loop-code.list c.set.new.self
    c.get-size.result.now c.loop-code.code c.from-in-loop-code.result c.get-number.result.now
    c.loop-code.invariant c.loop-code-test.true c.from-in-loop-code.ensures c.set.ensures
    (sym (get_or_from_slice_get numbers c.number.result c.get-number.result.now 0
    c.get-number.ensures)
    ∙ ap (slice_index numbers) (c.number.ensures ∙ c.child.ensures.child))

all_done : (code size kids : ℕ) → kids ≡ size → size ≤ code → (j : ℕ) → j < kids → j < code
all_done code size kids long whole j low = omega arith

pub returns : goal.returns
returns c =
    let kids = kids_of c.args.store.now c.args.k in
    let long = sized_here (goal.at.returns c).After-from-2 in
    is_map (slice_index c.args.numbers.now) kids c.loop-code.list
    (c.loop-code.invariant.long ∙ sym long)
    (λ j low. c.loop-code.invariant.each j
    (all_done c.loop-code.code c.get-size.result.now (length kids) long c.loop-code-test.false j
    low))
