use Rattle.std.proofs.Common.{◌≡◌, ◌∙◌, ℕ, Some, sym, subst}
use Rattle.polis_base.specs.Index.{found}
use Rattle.decision_diagram.specs.Operations.{IsResult}
use Rattle.decision_diagram.proofs.OperationResults.{results_found}
use Rattle.decision_diagram.proofs.store.Store.recall.Goals as goal

pub returns : goal.returns
returns c =
    let is : found c.results.result.now c.pair.result ≡ Some c.in_ok-number.number =
    sym c.find.ensures ∙ c.in_ok-number.was in
    subst (λ (n : ℕ). IsResult c.args.self.now c.args.op c.args.a c.args.b n) (sym c.new.ensures)
    (results_found c.args.self.now c.args.op c.results.result.now c.pair.result c.args.a
    c.args.b c.in_ok-number.number c.results.ensures c.pair.ensures is)
