use Rattle.std.proofs.Common.{◌≡◌, map}
use Rattle.polis_base.specs.Lists.{upto}
use Rattle.table_use.specs.Keys.{stride}
use Rattle.table_use.proofs.keys.strides_of.Given as goal

-- those before this one
abbrev pub invariant-loop-v : goal.invariant-loop-v
invariant-loop-v l = l.strides ≡ map (stride l.vars) (upto l.v)
