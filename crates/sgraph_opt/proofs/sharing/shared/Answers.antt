use Rattle.std.proofs.Common.{◌≡◌, ◌<◌, ◌∙◌, ap, arith, length, not, ◌&&◌, eqb, true, Some}
use Rattle.sgraph.specs.declared.vertex.Vertex.{Vertex}
use Rattle.sgraph.specs.declared.vertex.Vertex.TheVariants.{Test, Assign}
use Rattle.sgraph_opt.proofs.Shared.{chosen_test, chosen_assign, stays_other, stays_all}
use Rattle.sgraph_opt.proofs.sharing.shared.Goals as goal
use Rattle.sgraph_opt.proofs.sharing.shared.Goals.{else-drops-via-then-drops+else-code-eq0, else-drops-via-else-drops}

pub one_kid-requires-clause-kids : goal.one_kid-requires-clause-kids
one_kid-requires-clause-kids c = λ i low.
    let within = c.len.ensures.graph.within c.args.k (Test c.in-Test.var c.in-Test.kids) i
    (c.get-v.ensures ∙ ap (λ (v : Vertex). Some v) c.in-Test.is) low in
    let long = c.requires.long in
    omega arith

pub test_key-requires : goal.test_key-requires
test_key-requires c = λ i low.
    let within = c.len.ensures.graph.within c.args.k (Test c.in-Test.var c.in-Test.kids) i
    (c.get-v.ensures ∙ ap (λ (v : Vertex). Some v) c.in-Test.is) low in
    let long = c.requires.long in
    omega arith

pub get-next-requires : goal.get-next-requires
get-next-requires c =
    let within : c.in-Assign.next < length c.args.g.now =
    c.len.ensures.graph.within c.args.k (Assign c.in-Assign.y c.in-Assign.code c.in-Assign.next)
    0 (c.get-v.ensures ∙ ap (λ (v : Vertex). Some v) c.in-Assign.is) (omega arith) in
    let long = c.requires.long in
    omega arith

pub returns-in_ok-r-in-Test : goal.returns-in_ok-r-in-Test
returns-in_ok-r-in-Test c = λ v is.
    chosen_test c.args.drops c.args.g.now c.args.reps.now c.args.index.now c.known_or_new.new.index
    c.args.k c.in_ok-r-in-Test.r v c.get-v.result.now is c.get-v.ensures c.in-Test.var
    c.in-Test.kids c.deref.result.now c.in-Test.is c.in_default.ensures.none
    (c.deref.ensures.value ∙ c.in_ok-test_key-in-Test.ensures) c.in_ok-r-in-Test.ensures

pub returns-in_ok-r-in-Assign : goal.returns-in_ok-r-in-Assign
returns-in_ok-r-in-Assign c = λ v is.
    let stay : not (c.args.drops && eqb c.in-Assign.code 0) ≡ true =
    elim c.else-drops.branch [
      | else-drops-via-then-drops+else-code-eq0 w ↦
          stays_other c.args.drops c.in-Assign.code w.if-code-eq0.false
      | else-drops-via-else-drops w ↦ stays_all c.args.drops c.in-Assign.code w.if-drops.false
    ] in
    chosen_assign c.args.drops c.args.g.now c.args.reps.now c.args.index.now
    c.known_or_new-in-Assign.new.index c.args.k c.in_ok-r-in-Assign.r v c.get-v.result.now is
    c.get-v.ensures c.in-Assign.y c.in-Assign.code c.in-Assign.next c.get-next.result.now
    c.in-Assign.is c.get-next.ensures c.assign_key.result stay c.assign_key.ensures
    c.in_ok-r-in-Assign.ensures
