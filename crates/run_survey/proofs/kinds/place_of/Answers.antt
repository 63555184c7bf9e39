use Rattle.std.proofs.Common.{ℕ, List, bytes_eq, sym, ap, ◌∙◌}
use Rattle.run_survey.specs.inner.Merging.{has_outputs}
use Rattle.run_survey.proofs.ToldApart.{place_at, place_nowhere}
use Rattle.run_survey.proofs.kinds.place_of.Goals as goal

pub returns-then-eq : goal.returns-then-eq
returns-then-eq c =
    let outputs = c.args.outputs.now in
    sym
    (place_at (has_outputs outputs) c.args.kinds.now c.loop-k.k c.index-kinds-k.result
    c.loop-k.invariant c.loop-k-test.true c.index-kinds-k.is
    (ap (has_outputs outputs) c.index-kinds-k.is
    ∙ ap (λ (l : List ℕ). bytes_eq l outputs) (sym c.as_slice.ensures)
    ∙ sym c.eq.ensures ∙ c.if-eq.true))

pub returns : goal.returns
returns c =
    sym
    (place_nowhere (has_outputs c.args.outputs.now) c.args.kinds.now c.loop-k.k
    c.loop-k.invariant c.loop-k-test.false)
