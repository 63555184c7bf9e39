use Rattle.std.proofs.Common.{◌≡◌, ◌-◌, take, length}
use Rattle.sgraph.specs.Graphs.{each, left_after, kids_at}
use Rattle.sgraph.specs.inner.Marks.{turned, Marks}
use Rattle.sgraph_opt.specs.inner.Renumbering.{replaced}
use Rattle.sgraph_opt.proofs.numbering.+leave.Given as goal

-- what stands for those that follow stands after
abbrev pub decreases-leave : goal.decreases-leave
decreases-leave l = length l.g.now - l.k

-- what stands for those that follow so far is left
abbrev pub invariant-loop-kid : goal.invariant-loop-kid
invariant-loop-kid l = record {
  left : turned l.left
      ≡ each (left_after (length (replaced l.g l.reps)) (kids_at (replaced l.g l.reps)))
      (turned l.fn.left) (take l.kid-index (kids_at (replaced l.g l.reps) l.k));
  marks : Marks (length (replaced l.g l.reps)) l.marks l.left;
}
