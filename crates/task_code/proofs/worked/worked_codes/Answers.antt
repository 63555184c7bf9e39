use Rattle.task_code.proofs.Lamps.{lamp}
use Rattle.task_code.proofs.worked.worked_codes.Goals as goal

pub returns : goal.returns
returns c = record { lamp = lamp }
