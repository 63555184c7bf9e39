use Rattle.determinism.proofs.Clash.{clash_conflict, differing_conflict}
use Rattle.determinism.proofs.worked.worked_conflict.Goals as goal

pub returns-clause-clash : goal.returns-clause-clash
returns-clause-clash c = clash_conflict c.worked_rows.ensures.clash

pub returns-clause-differing : goal.returns-clause-differing
returns-clause-differing c = differing_conflict c.worked_rows.ensures.differing
