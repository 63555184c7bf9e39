use Rattle.std.proofs.Common.{◌++◌, ◌∷◌, [], length}
use Rattle.task_image.proofs.Writes.{ArePut}
use Rattle.task_image.proofs.encoding.put_sizes.Given as goal

abbrev pub invariant-loop-v : goal.invariant-loop-v
invariant-loop-v l = ArePut (λ b. b ∷ []) (l.fn.out ++ length l.sizes ∷ []) l.sizes l.v l.out
