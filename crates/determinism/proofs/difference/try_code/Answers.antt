use Rattle.std.proofs.Common.{◌<◌, ◌==◌, slice_index, slice_set, arith, sym, ap, subst, ◌∙◌}
use Rattle.std.specs.Int.{bit_at}
use Rattle.std.proofs.lemmas.Bool.{eqb-true}
use Rattle.std.proofs.lemmas.List.{get_or-set_same, get_or-set_other}
use Rattle.std.proofs.lemmas.Option.{get_or_from_slice_get}
use Rattle.determinism.proofs.LeastCodes.{in_set, not_there, set_agrees, same_there}
use Rattle.determinism.proofs.difference.try_code.Goals as goal

pub returns-clause-inside : goal.returns-clause-inside
returns-clause-inside c =
    let sets = c.args.pair.now.sets.now in
    let at = get_or_from_slice_get sets c.args.v c.get.result.now 0 c.get.ensures in
    let set = eqb-true (bit_at c.get.result.now c.args.code) 1
    (sym (c.has.ensures ∙ ap (λ k. bit_at c.get.result.now k == 1) c.from.ensures) ∙
    c.if-not-has.false) in
    rw c.set.ensures
    (in_set sets c.args.s.now.codes c.args.v c.args.code c.requires.inside c.requires.reads.there
    (ap (λ n. bit_at n c.args.code) at ∙ set))

pub differ-requires : goal.differ-requires
differ-requires c =
    let sets = c.args.pair.now.sets.now in
    let at = get_or_from_slice_get sets c.args.v c.get.result.now 0 c.get.ensures in
    let set = eqb-true (bit_at c.get.result.now c.args.code) 1
    (sym (c.has.ensures ∙ ap (λ k. bit_at c.get.result.now k == 1) c.from.ensures) ∙
    c.if-not-has.false) in
    let inside = in_set sets c.args.s.now.codes c.args.v c.args.code c.requires.inside
    c.requires.reads.there (ap (λ n. bit_at n c.args.code) at ∙ set) in
    record { snapshot = rw c.set.ensures (c.args.pair.now.area.inside _ inside).snapshot }

pub returns-clause-none : goal.returns-clause-none
returns-clause-none c = λ h t there at_u at_v.
    let long = c.requires.inside.long in
    let var = c.requires.reads.there in
    let agrees = set_agrees c.args.s.now.codes t c.args.u c.args.v c.args.code (omega arith)
    at_u at_v in
    same_there c.args.pair.now c.args.y c.args.u c.args.v t
    (slice_set c.args.s.now.codes c.args.v c.args.code) c.requires.reads agrees.0 agrees.1
    (rw c.set.ensures at (c.differ.ensures.same h))

pub get-requires : goal.get-requires
get-requires c = c.requires.reads.there

pub has-requires : goal.has-requires
has-requires c = subst (λ k. k < 64) (sym c.from.ensures) c.requires.code

pub returns-then-not-has-clause-inside : goal.returns-then-not-has-clause-inside
returns-then-not-has-clause-inside c = c.requires.inside

pub returns-then-not-has-clause-none : goal.returns-then-not-has-clause-none
returns-then-not-has-clause-none c = λ h t there at_u at_v.
    let sets = c.args.pair.now.sets.now in
    let at = get_or_from_slice_get sets c.args.v c.get.result.now 0 c.get.ensures in
    let differ = not_there sets t c.args.v c.args.code there c.requires.reads.there at_v
    (ap (λ n. bit_at n c.args.code == 1) at ∙ sym (c.has.ensures ∙ ap (λ k. bit_at c.get.result.now
    k == 1) c.from.ensures) ∙ c.if-not-has.true) in
    absurd differ

pub set-requires : goal.set-requires
set-requires c =
    subst (λ n. c.args.v < n) (sym c.requires.inside.long) c.requires.reads.there

pub returns-clause-same : goal.returns-clause-same
returns-clause-same c = λ k apart.
    ap (λ l. slice_index l k) c.set.ensures
    ∙ get_or-set_other c.args.s.now.codes c.args.v k c.args.code 0 apart

pub returns-clause-code : goal.returns-clause-code
returns-clause-code c = λ h.
    ap (λ l. slice_index l c.args.v) c.set.ensures
    ∙ get_or-set_same c.args.s.now.codes c.args.v c.args.code 0
    (subst (λ n. c.args.v < n) (sym c.requires.inside.long) c.requires.reads.there)

pub returns-clause-differ : goal.returns-clause-differ
returns-clause-differ c = c.differ.ensures.differ
