use Rattle.std.proofs.Common.{◌≡◌, ◌++◌, drop}
use Rattle.task_code.specs.Codes.{start, laid_out}
use Rattle.task_code.proofs.layout.lower.Given as goal

-- what is laid out, with what is left, is the whole
abbrev pub invariant-loop-k : goal.invariant-loop-k
invariant-loop-k l = l.code ++ laid_out (start l.g) l.k (drop l.k l.g) ≡ laid_out (start l.g) 0 l.g
