use Rattle.std.proofs.Common.{◌≡◌, ◌≤◌, ◌∙◌, ℕ, inl, inr, ap, arith, refl, slice_get, slice_index, Some, subst, sym}
use Rattle.std.proofs.lemmas.Bool.{cases_lt, false≢true}
use Rattle.std.proofs.lemmas.Option.{get_or_from_slice_get, slice_get_within}
use Rattle.task_code.specs.declared.instr.Instr.{Instr}
use Rattle.cost_bound.specs.inner.Scores.{MayGoOn}
use Rattle.cost_bound.specs.Certificates.{needed}
use Rattle.cost_bound.proofs.CoversBound.{covers_bound}
use Rattle.cost_bound.proofs.TailCosts.{may_go_on}
use Rattle.cost_bound.proofs.certificate.audit.Goals as goal

same_item : (x y : Instr) → Some x ≡ Some y → x ≡ y
same_item x y e = cc

pub needed-requires-clause-goes_on : goal.needed-requires-clause-goes_on
needed-requires-clause-goes_on c =
    subst (λ (n : ℕ). MayGoOn n c.loop-at.at c.get-in-loop-at.result.now) (sym c.requires.long)
    (may_go_on c.args.code.now c.loop-at.at c.get-in-loop-at.result.now
    c.len-at-end.ensures.code c.get-in-loop-at.ensures)

pub returns-then-get-needed-clause-covers : goal.returns-then-get-needed-clause-covers
returns-then-get-needed-clause-covers c = (
  λ e. absurd (false≢true e),
  λ covers. absurd (omega (
    arith,
    covers.each c.loop-at.at c.get-in-loop-at.result.now c.get-in-loop-at.ensures,
    get_or_from_slice_get c.args.labels.now c.loop-at.at c.get.result.now 0 c.get.ensures,
    c.needed.ensures,
    c.if-get-needed.true,
  )),
)

pub loop-at-preserved : goal.loop-at-preserved
loop-at-preserved c = λ i x low is.
    elim (cases_lt i c.loop-at.at) [
      | inl less ↦ c.loop-at.invariant i x less is
      | inr more ↦
          let e : c.loop-at.at ≡ i = omega arith in
          let here : needed c.args.costs.now c.args.labels.now c.loop-at.at
          c.get-in-loop-at.result.now ≤ slice_index c.args.labels.now c.loop-at.at =
          omega (
            arith,
            get_or_from_slice_get c.args.labels.now c.loop-at.at c.get.result.now 0
                c.get.ensures,
            c.needed.ensures,
            c.if-get-needed.false,
          ) in
          let same : c.get-in-loop-at.result.now ≡ x =
          same_item c.get-in-loop-at.result.now x
          (sym c.get-in-loop-at.ensures ∙ ap (slice_get c.args.code.now) e ∙ is) in
          subst (λ (y : Instr). needed c.args.costs.now c.args.labels.now i y
          ≤ slice_index c.args.labels.now i) same
          (subst (λ (k : ℕ). needed c.args.costs.now c.args.labels.now k
          c.get-in-loop-at.result.now ≤ slice_index c.args.labels.now k) e here)
    ]

pub returns-clause-covers : goal.returns-clause-covers
returns-clause-covers c = (
  λ e. record {
    long = c.requires.long;
    each = λ i x is. let low = slice_get_within c.args.code.now i x is in
        let stop = c.loop-at-test.false in
        let len = c.len-at-end.ensures.len in
        c.loop-at.invariant i x (omega arith) is;
  },
  λ covers. refl,
)

pub returns-clause-bounds : goal.returns-clause-bounds
returns-clause-bounds c = λ e s.
    covers_bound c.args.costs.now c.args.code.now c.args.labels.now s c.len-at-end.ensures.code
    record {
      long = c.requires.long;
      each = λ i x is. let low = slice_get_within c.args.code.now i x is in
          let stop = c.loop-at-test.false in
          let len = c.len-at-end.ensures.len in
          c.loop-at.invariant i x (omega arith) is;
    }
