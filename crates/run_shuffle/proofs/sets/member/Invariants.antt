use Rattle.std.proofs.Common.{◌≡◌, drop}
use Rattle.polis_base.specs.Sets.{members}
use Rattle.run_shuffle.proofs.sets.member.Given as goal

-- the members from this one on are left
abbrev pub invariant-loop : goal.invariant-loop
invariant-loop l = members l.left ≡ drop l.counter (members l.fn.set)
