use Rattle.std.proofs.Common.{◌≡◌, ◌+◌, ◌<◌, ◌≤◌, ◌||◌, ℕ, nat_eq, length, take}
use Rattle.std.specs.List.{list_any}
use Rattle.decision_diagram.specs.Reached.{marked}
use Rattle.decision_diagram.proofs.count.mark.Given as goal

-- the nodes so far are marked
abbrev pub invariant-loop-kid : goal.invariant-loop-kid
invariant-loop-kid l = (m : ℕ) → 2 ≤ m → m < length l.marks + 2
    → marked l.marks m ≡ (marked l.initial.marks m || list_any (nat_eq m) (take l.kid-index l.kids))
