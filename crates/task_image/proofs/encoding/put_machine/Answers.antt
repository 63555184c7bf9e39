use Rattle.task_image.specs.inner.Heads.{machine_of}
use Rattle.task_image.proofs.Writes.{has_bytes}
use Rattle.task_image.proofs.encoding.put_machine.Goals as goal

pub put_code-requires : goal.put_code-requires
put_code-requires c = has_bytes (machine_of c.args.head.now c.args.code.now) c.requires
