use Rattle.input_files.specs.Accepted.{AreBefore}
use Rattle.input_files.proofs.accept.are_deterministic.Given as goal

-- the machines so far are deterministic
abbrev pub invariant-loop-m : goal.invariant-loop-m
invariant-loop-m l = AreBefore l.net l.m
