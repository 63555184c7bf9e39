use Rattle.std.proofs.Common.{◌≡◌, ◌∙◌, sym, arith, slice_index}
use Rattle.decision_diagram.specs.Diagrams.{kids_of}
use Rattle.sgraph.proofs.NextNodes.{code_is}
use Rattle.sgraph.proofs.leaving.first_code.Goals as goal

pub returns-then-number-ne0-clause-code : goal.returns-then-number-ne0-clause-code
returns-then-number-ne0-clause-code c =
    let kids = kids_of c.args.store.now c.args.k in
    let var = c.shape.ensures.kids c.args.var (c.shape.ensures.shape ∙ c.requires.shape) in
    let low = c.loop-code-test.true in
    let size = c.item_size-code-end.ensures in
    let same : slice_index c.args.store.now.sizes c.args.var ≡ c.item_size-code-end.result =
    rw c.requires.sizes (sym size) in
    sym (code_is kids c.loop-code.code (omega arith) c.loop-code.invariant
    (λ zero. c.if-number-ne0.true (c.number.ensures ∙ c.child.ensures.child ∙ zero)))
