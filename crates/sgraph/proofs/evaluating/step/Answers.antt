use Rattle.std.proofs.Common.{◌∙◌, ◌<◌, ℕ, length, slice_get, slice_index, sym, ap, subst}
use Rattle.std.proofs.lemmas.Option.{get_or_from_slice_get}
use Rattle.sgraph.specs.declared.vertex.Vertex.{Vertex}
use Rattle.sgraph.specs.Graphs.{assign, next_of}
use Rattle.sgraph.specs.Walks.{outcome_with, width_of}
use Rattle.sgraph.specs.inner.Walks.{MayWalk}
use Rattle.sgraph.proofs.evaluating.step.Goals as goal

pub get-requires : goal.get-requires
get-requires c =
    subst (λ (k : ℕ). k < length c.args.s.now.codes) (sym c.from.ensures)
    (subst (MayWalk c.args.count c.args.s.now.codes (width_of c.args.o.now) c.args.at)
    c.in-Test.is c.requires).0

pub get-requires-in-Test : goal.get-requires-in-Test
get-requires-in-Test c =
    let codes = c.args.s.now.codes in
    subst (λ (k : ℕ). k < length c.in-Test.kids)
    (ap (slice_index codes) (sym c.from.ensures)
    ∙ get_or_from_slice_get codes c.from.result c.get.result.now 0 c.get.ensures
    ∙ sym c.from-in-Test.ensures)
    (subst (MayWalk c.args.count codes (width_of c.args.o.now) c.args.at)
    c.in-Test.is c.requires).1

pub set_result-requires : goal.set_result-requires
set_result-requires c =
    (subst (MayWalk c.args.count c.args.s.now.codes (width_of c.args.o.now) c.args.at)
    c.in-Assign.is c.requires).0

pub returns-in-Begin-clause-leads : goal.returns-in-Begin-clause-leads
returns-in-Begin-clause-leads c =
    ap (next_of c.args.s.now.codes c.args.at) (sym c.in-Begin.is)

pub returns-in-Begin-clause-set : goal.returns-in-Begin-clause-set
returns-in-Begin-clause-set c codes long is =
    is
    ∙ ap (λ (v : Vertex). outcome_with (length c.args.o.now.next) (assign codes v))
    (sym c.in-Begin.is)

pub returns-in-Test-clause-leads : goal.returns-in-Test-clause-leads
returns-in-Test-clause-leads c =
    let codes = c.args.s.now.codes in
    sym c.get-in-Test.ensures
    ∙ ap (slice_get c.in-Test.kids)
    (c.from-in-Test.ensures
    ∙ sym (get_or_from_slice_get codes c.from.result c.get.result.now 0 c.get.ensures)
    ∙ ap (slice_index codes) c.from.ensures)
    ∙ ap (next_of codes c.args.at) (sym c.in-Test.is)

pub returns-in-Test-clause-set : goal.returns-in-Test-clause-set
returns-in-Test-clause-set c codes long is =
    is
    ∙ ap (λ (v : Vertex). outcome_with (length c.args.o.now.next) (assign codes v))
    (sym c.in-Test.is)

pub returns-in-Assign-clause-leads : goal.returns-in-Assign-clause-leads
returns-in-Assign-clause-leads c =
    ap (next_of c.args.s.now.codes c.args.at) (sym c.in-Assign.is)

pub returns-in-Assign-clause-next : goal.returns-in-Assign-clause-next
returns-in-Assign-clause-next c = c.set_result.ensures.next

pub returns-in-Assign-clause-outs : goal.returns-in-Assign-clause-outs
returns-in-Assign-clause-outs c = c.set_result.ensures.outs

pub returns-in-Assign-clause-set : goal.returns-in-Assign-clause-set
returns-in-Assign-clause-set c codes long is =
    c.set_result.ensures.set codes long is
    ∙ ap (λ (v : Vertex). outcome_with (length c.args.o.now.next) (assign codes v))
    (sym c.in-Assign.is)

pub returns-in-End-clause-leads : goal.returns-in-End-clause-leads
returns-in-End-clause-leads c = ap (next_of c.args.s.now.codes c.args.at) (sym c.in-End.is)

pub returns-in-End-clause-set : goal.returns-in-End-clause-set
returns-in-End-clause-set c codes long is =
    is
    ∙ ap (λ (v : Vertex). outcome_with (length c.args.o.now.next) (assign codes v))
    (sym c.in-End.is)
