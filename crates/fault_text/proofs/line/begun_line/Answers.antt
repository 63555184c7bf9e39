use Rattle.std.proofs.Common.{length, ◌≡◌, ◌+◌, ◌-◌, [], List, ℕ, Some, slice_get, ap, sym, ◌∙◌, arith}
use Rattle.std.proofs.lemmas.Bool.{eqb-true, eqb-false}
use Rattle.fault_text.specs.Positions.{begun_lines}
use Rattle.fault_text.proofs.Lines.{line_after, first_begun, none_begun}
use Rattle.fault_text.proofs.line.begun_line.Goals as goal

pub returns-in-None : goal.returns-in-None
returns-in-None c =
    let more = c.loop-test.true in
    sym (line_after (begun_lines c.loop.rest.now) [] (c.args.number - c.loop.counter)
    (c.args.number - (c.loop.counter + 1)) (omega arith)
    (rw c.in-None.is at c.after_first.ensures.none))
    ∙ c.loop.invariant

pub loop-preserved : goal.loop-preserved
loop-preserved c =
    let more = c.loop-test.true in
    sym (line_after (begun_lines c.loop.rest.now) (begun_lines c.in-Some.more.now)
    (c.args.number - c.loop.counter) (c.args.number - (c.loop.counter + 1)) (omega arith)
    (rw c.in-Some.is at c.after_first.ensures.some))
    ∙ c.loop.invariant

pub returns-then-is_empty : goal.returns-then-is_empty
returns-then-is_empty c =
    let done = c.loop-test.false in
    let zero_is : 0 ≡ c.args.number - c.loop.counter = omega arith in
    sym (none_begun c.loop.rest.now
    (eqb-true (length c.loop.rest.now) 0 (sym c.is_empty.ensures ∙ c.if-is_empty.true)))
    ∙ ap (λ (k : ℕ). slice_get (begun_lines c.loop.rest.now) k) zero_is
    ∙ c.loop.invariant

pub returns : goal.returns
returns c =
    let done = c.loop-test.false in
    let zero_is : 0 ≡ c.args.number - c.loop.counter = omega arith in
    let some = eqb-false (length c.loop.rest.now) 0
    (sym c.is_empty.ensures ∙ c.if-is_empty.false) in
    ap (λ (l : List ℕ). Some l) c.first_line.ensures
    ∙ sym (first_begun c.loop.rest.now (omega arith))
    ∙ ap (λ (k : ℕ). slice_get (begun_lines c.loop.rest.now) k) zero_is
    ∙ c.loop.invariant
