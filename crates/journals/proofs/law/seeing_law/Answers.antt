use Rattle.journals.proofs.Seen.{reactions_see}
use Rattle.journals.proofs.law.seeing_law.Goals as goal

pub returns : goal.returns
returns c = reactions_see
