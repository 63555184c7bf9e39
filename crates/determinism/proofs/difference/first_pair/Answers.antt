use Rattle.std.proofs.Common.{slice_index, arith, sym, ◌∙◌, inl, inr}
use Rattle.std.proofs.lemmas.Bool.{cases_order}
use Rattle.std.proofs.lemmas.Bool.Decides.{eqb_tells}
use Rattle.determinism.proofs.LeastCodes.{pair_before}
use Rattle.determinism.proofs.difference.first_pair.Goals as goal

pub returns-then-try_first-clause-some : goal.returns-then-try_first-clause-some
returns-then-try_first-clause-some c = λ h. record {
  inside = c.try_first.ensures.inside;
  differ = (c.try_first.ensures.some c.if-try_first.true).differ;
  least = λ t there differ.
      let found = c.try_first.ensures.some c.if-try_first.true in
      let at = found.at in
      pair_before c.args.pair.now.sets.now c.args.s.now.codes c.try_first.new.s.codes t c.args.u c.args.v
      c.requires.apart c.requires.reads.there c.requires.inside c.try_first.ensures.inside
      (λ k not_u not_v. c.try_first.ensures.same k not_u not_v
      ∙ c.loop-code.invariant.same k not_u not_v)
      there
      (elim (cases_order (slice_index t c.args.u) c.loop-code.code) [
        | inl here ↦ inr (at ∙ sym here, found.least t there here differ)
        | inr other ↦ elim other [
          | inl below ↦ absurd (c.loop-code.invariant.none t there below differ)
          | inr above ↦ inl (omega arith)
        ]
      ]);
}

pub loop-code-preserved : goal.loop-code-preserved
loop-code-preserved c = record {
  inside = c.try_first.ensures.inside;
  same = λ k not_u not_v. c.try_first.ensures.same k not_u not_v
      ∙ c.loop-code.invariant.same k not_u not_v;
  none = λ t there within.
      elim (eqb_tells (slice_index t c.args.u) c.loop-code.code) [
        | inl here ↦ c.try_first.ensures.none c.if-try_first.false t there here.1
        | inr other ↦ c.loop-code.invariant.none t there (let differ = other.1 in omega arith)
      ];
}

pub returns-clause-none : goal.returns-clause-none
returns-clause-none c = λ h t there.
    let var = c.requires.reads.there in
    let order = c.requires.apart in
    let few = c.args.pair.now.area.few c.args.u (slice_index t c.args.u) (omega arith)
    (there.each c.args.u (omega arith)) in
    let all = c.loop-code-test.false in
    c.loop-code.invariant.none t there (omega arith)
