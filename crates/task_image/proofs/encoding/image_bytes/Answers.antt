use Rattle.task_image.proofs.Writes.{glued}
use Rattle.task_image.proofs.encoding.image_bytes.Goals as goal

pub returns : goal.returns
returns c = (
  glued c.new-out.result c.put.new.out c.put-2.new.out c.put_machines.new.out
      c.as_slice.result.now c.len.result c.args.image.now c.new-out.ensures
      c.in_ok-put.ensures.0 c.as_slice.ensures c.in_ok-put-2.ensures.0 c.len.ensures
      c.in_ok-put_machines.ensures.0,
  c.in_ok-put_machines.ensures.1,
)
