use Rattle.determinism.specs.inner.Sayers.{AreSayers}
use Rattle.determinism.proofs.sayers.sayers_of.Given as goal

-- what is said so far is said by these rows
abbrev pub invariant-loop-row : goal.invariant-loop-row
invariant-loop-row l = AreSayers l.marks l.sayers
