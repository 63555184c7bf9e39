use Rattle.task_image.proofs.ImageLaws.{image_laws}
use Rattle.task_image.proofs.law.laws.Goals as goal

pub returns : goal.returns
returns c = image_laws
