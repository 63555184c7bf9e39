use Rattle.std.proofs.Common.{slice_index, arith, sym, ◌∙◌, inl, inr}
use Rattle.std.proofs.lemmas.Bool.{cases_lt}
use Rattle.std.proofs.lemmas.Bool.Decides.{eqb_tells}
use Rattle.determinism.proofs.difference.first_code.Goals as goal

pub loop-code-preserved : goal.loop-code-preserved
loop-code-preserved c = record {
  inside = c.try_code.ensures.inside;
  same = λ k apart. c.try_code.ensures.same k apart ∙ c.loop-code.invariant.same k apart;
  none = λ t there at_u within.
      elim (eqb_tells (slice_index t c.args.v) c.loop-code.code) [
        | inl here ↦ c.try_code.ensures.none c.if-try_code.false t there
            (λ apart. at_u apart ∙ sym (c.loop-code.invariant.same c.args.u apart)) here.1
        | inr other ↦ c.loop-code.invariant.none t there at_u (let differ = other.1 in omega arith)
      ];
}

pub returns-then-try_code-clause-least : goal.returns-then-try_code-clause-least
returns-then-try_code-clause-least c = λ h t there at_u differ.
    elim (cases_lt (slice_index t c.args.v) c.loop-code.code) [
      | inl below ↦ absurd (c.loop-code.invariant.none t there at_u below differ)
      | inr over ↦ let at = c.try_code.ensures.code c.if-try_code.true in omega arith
    ]

pub returns-clause-none : goal.returns-clause-none
returns-clause-none c = λ h t there at_u.
    let few = c.args.pair.now.area.few c.args.v (slice_index t c.args.v) c.requires.reads.there
    (there.each c.args.v c.requires.reads.there) in
    let all = c.loop-code-test.false in
    c.loop-code.invariant.none t there at_u (omega arith)
