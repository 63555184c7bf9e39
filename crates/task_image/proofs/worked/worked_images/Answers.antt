use Rattle.task_image.proofs.Lamps.{lamp_rows, lamp_fault_rows, lamp_check_rows}
use Rattle.task_image.proofs.worked.worked_images.Goals as goal

pub returns-clause-image : goal.returns-clause-image
returns-clause-image c = lamp_rows

pub returns-clause-faults : goal.returns-clause-faults
returns-clause-faults c = lamp_fault_rows

pub returns-clause-checks : goal.returns-clause-checks
returns-clause-checks c = lamp_check_rows
