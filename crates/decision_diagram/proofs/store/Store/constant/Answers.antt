use Rattle.decision_diagram.proofs.Meanings.{value_constant}
use Rattle.decision_diagram.proofs.store.Store.constant.Goals as goal

pub returns-clause-value : goal.returns-clause-value
returns-clause-value c =
    λ codes. value_constant c.args.self.now c.args.value c.constant.result codes c.constant.ensures
