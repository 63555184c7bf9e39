use Rattle.std.proofs.Common.{◌≡◌, map, slice_index}
use Rattle.polis_base.specs.Lists.{upto}
use Rattle.journals.specs.Moved.{code_after}
use Rattle.journals.proofs.moments.next_moment.Given as goal

-- the codes before this one are made
abbrev pub invariant-loop-k : goal.invariant-loop-k
invariant-loop-k l =
    l.codes ≡ map (λ k. code_after l.machine l.entry k (slice_index l.before.codes k)) (upto l.k)
