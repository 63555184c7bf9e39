use Rattle.std.proofs.Common.{arith}
use Rattle.task_image.proofs.BreaksAt.{decodes_ok, breaks, image_ends}
use Rattle.task_image.proofs.decoding.decode.Goals as goal

pub overflow_sub-result : goal.overflow_sub-result
overflow_sub-result c =
    image_ends c.args.bytes.now c.in-Err-Bad.left (λ i. omega (arith, c.type_inv.bytes i))
    (rw c.in-Err-Bad.field-0-is at c.in-Err-Bad.ensures)

pub returns-in-Ok : goal.returns-in-Ok
returns-in-Ok c =
    decodes_ok c.args.bytes.now c.in-Ok.image (λ i. omega (arith, c.type_inv.bytes i))
    c.in-Ok.ensures

pub returns-in-Err-Bad : goal.returns-in-Err-Bad
returns-in-Err-Bad c =
    let e = rw c.in-Err-Bad.field-0-is at c.in-Err-Bad.ensures in
    let le = image_ends c.args.bytes.now c.in-Err-Bad.left (λ i. omega (arith, c.type_inv.bytes i))
    e
    in
    breaks c.args.bytes.now c.in-Err-Bad.left _ (λ i. omega (arith, c.type_inv.bytes i)) e
    (omega (arith, le))
