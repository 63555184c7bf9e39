use Rattle.std.proofs.Common.{◌≡◌, take}
use Rattle.decision_diagram.proofs.store.are_kids.Given as goal

-- the children so far are the node's
abbrev pub invariant-loop-i : goal.invariant-loop-i
invariant-loop-i l = take l.i l.kept ≡ take l.i l.kids
