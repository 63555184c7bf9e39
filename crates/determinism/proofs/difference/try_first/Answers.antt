use Rattle.std.proofs.Common.{◌≡◌, ◌==◌, ◌<◌, ◌∙◌, ℕ, List, length, slice_index, slice_set, get_or-set_same, arith, refl, sym, ap, subst}
use Rattle.std.specs.Int.{bit_at}
use Rattle.std.proofs.lemmas.Bool.{eqb-true, false≢true}
use Rattle.std.proofs.lemmas.List.{get_or-set_other}
use Rattle.std.proofs.lemmas.Option.{get_or_from_slice_get}
use Rattle.determinism.specs.inner.Boxes.{IsIn}
use Rattle.determinism.proofs.LeastCodes.{in_set, not_there}
use Rattle.determinism.proofs.difference.try_first.Goals as goal

-- the code that was written
written_code : (codes new : List ℕ) (u code : ℕ) → new ≡ slice_set codes u code
    → u < length codes → slice_index new u ≡ code
written_code codes new u code is there =
    ap (λ (xs : List ℕ). slice_index xs u) is ∙ get_or-set_same codes u code 0 there

pub returns-then-not-has-clause-inside : goal.returns-then-not-has-clause-inside
returns-then-not-has-clause-inside c = c.requires.inside

pub returns-then-not-has-clause-same : goal.returns-then-not-has-clause-same
returns-then-not-has-clause-same c = λ k not_u not_v. refl

pub returns-then-not-has-clause-some : goal.returns-then-not-has-clause-some
returns-then-not-has-clause-some c = λ h. absurd (false≢true h)

pub returns-then-not-has-clause-none : goal.returns-then-not-has-clause-none
returns-then-not-has-clause-none c = λ h t there at differ.
    let order = c.requires.apart in
    let var = c.requires.reads.there in
    let sets = c.args.pair.now.sets.now in
    let set = get_or_from_slice_get sets c.args.u c.get.result.now 0 c.get.ensures in
    not_there sets t c.args.u c.args.code there (omega arith) at
    (ap (λ n. bit_at n c.args.code == 1) set ∙ sym (c.has.ensures ∙ ap (λ k. bit_at
    c.get.result.now k == 1) c.from.ensures) ∙ c.if-not-has.true)

pub first_code-requires-clause-inside : goal.first_code-requires-clause-inside
first_code-requires-clause-inside c =
    let order = c.requires.apart in
    let var = c.requires.reads.there in
    let sets = c.args.pair.now.sets.now in
    let at = get_or_from_slice_get sets c.args.u c.get.result.now 0 c.get.ensures in
    let set = eqb-true (bit_at c.get.result.now c.args.code) 1
    (sym (c.has.ensures ∙ ap (λ k. bit_at c.get.result.now k == 1) c.from.ensures) ∙
    c.if-not-has.false) in
    subst (IsIn sets) (sym c.set.ensures)
    (in_set sets c.args.s.now.codes c.args.u c.args.code c.requires.inside (omega arith)
    (ap (λ n. bit_at n c.args.code) at ∙ set))

pub returns-clause-inside : goal.returns-clause-inside
returns-clause-inside c = c.first_code.ensures.inside

pub returns-clause-same : goal.returns-clause-same
returns-clause-same c = λ k not_u not_v.
    c.first_code.ensures.same k not_v
    ∙ ap (λ (xs : List ℕ). slice_index xs k) c.set.ensures
    ∙ get_or-set_other c.args.s.now.codes c.args.u k c.args.code 0 not_u

pub returns-clause-some : goal.returns-clause-some
returns-clause-some c = λ h.
    let order = c.requires.apart in
    let var = c.requires.reads.there in
    let long = c.requires.inside.long in
    let here = written_code c.args.s.now.codes c.set.new.self c.args.u c.args.code c.set.ensures
    (omega arith) in
    record {
      at = c.first_code.ensures.same c.args.u (λ e. omega arith) ∙ here;
      differ = c.first_code.ensures.differ h;
      least = λ t there at differ.
          c.first_code.ensures.least h t there (λ apart. at ∙ sym here) differ;
    }

pub returns-clause-none : goal.returns-clause-none
returns-clause-none c = λ h t there at.
    let order = c.requires.apart in
    let var = c.requires.reads.there in
    let long = c.requires.inside.long in
    let here = written_code c.args.s.now.codes c.set.new.self c.args.u c.args.code c.set.ensures
    (omega arith) in
    c.first_code.ensures.none h t there (λ apart. at ∙ sym here)
