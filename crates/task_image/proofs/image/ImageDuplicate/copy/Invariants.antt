use Rattle.std.proofs.Common.{◌≡◌, take}
use Rattle.task_image.proofs.image.ImageDuplicate.copy.Given as goal

abbrev pub invariant-loop-head : goal.invariant-loop-head
invariant-loop-head l = l.heads.items ≡ take l.head-index l.head-items
