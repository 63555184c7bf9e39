use Rattle.std.proofs.Common.{◌≡◌, length, take, replicate}
use Rattle.task_machine.proofs.running.clear.Given as goal

-- the codes before this one are 0
abbrev pub invariant-loop-k : goal.invariant-loop-k
invariant-loop-k l =
    record { same : length l.codes ≡ length l.fn.codes; front : take l.k l.codes ≡ replicate l.k 0 }
