use Rattle.std.proofs.Common.{◌≡◌, ◌*◌, drop}
use Rattle.domains.specs.Tables.{product}
use Rattle.order_sift.proofs.turns.snapshot_count.Given as goal

abbrev pub invariant-loop-v : goal.invariant-loop-v
invariant-loop-v l = l.count * product (drop l.v l.m.vars) ≡ product l.m.vars
