use Rattle.std.proofs.Common.{◌≡◌, map, take}
use Rattle.table_use.specs.inner.Firsts.{is_go}
use Rattle.table_use.proofs.keys.fires_of.Given as goal

-- those before this one
abbrev pub invariant-loop-k : goal.invariant-loop-k
invariant-loop-k l = l.fires ≡ map is_go (take l.k l.outcomes)
