use Rattle.std.proofs.Common.{◌≡◌, ◌+◌, ◌-◌, take, length}
use Rattle.sgraph.specs.Graphs.{each, left_after}
use Rattle.sgraph.specs.Building.{next_nodes}
use Rattle.sgraph.specs.inner.Marks.{turned, Marks}
use Rattle.sgraph.proofs.leaving.+leave.Given as goal

-- what follows was made before
abbrev pub decreases-leave : goal.decreases-leave
decreases-leave l = l.k

-- those that follow so far are left
abbrev pub invariant-loop-code : goal.invariant-loop-code
invariant-loop-code l = record {
  left : turned l.left ≡ each (left_after l.k (next_nodes l.store (length l.m.vars)))
      (turned l.fn.left) (take (l.code - l.from) (next_nodes l.store (length l.m.vars) l.k));
  marks : Marks (length l.store.nodes + 2) l.marks l.left;
}
