use Rattle.domains.proofs.IsLeast.{orders_agree}
use Rattle.domains.proofs.law.laws_of_least.Goals as goal

pub returns : goal.returns
returns c = orders_agree
