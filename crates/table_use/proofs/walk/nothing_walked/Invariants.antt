use Rattle.std.proofs.Common.{◌≡◌, [], map}
use Rattle.polis_base.specs.Lists.{upto}
use Rattle.table_use.specs.inner.Walking.{input_in}
use Rattle.table_use.proofs.walk.nothing_walked.Given as goal

-- nothing is found of the inputs before this one
abbrev pub invariant-loop : goal.invariant-loop
invariant-loop l = l.inputs.items ≡ map (input_in l.machine []) (upto l.counter)
