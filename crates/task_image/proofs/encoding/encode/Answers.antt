use Rattle.task_image.proofs.Writes.{encodes}
use Rattle.task_image.proofs.encoding.encode.Goals as goal

pub returns : goal.returns
returns c = encodes c.args.image.now c.image_bytes.result c.requires c.image_bytes.ensures
