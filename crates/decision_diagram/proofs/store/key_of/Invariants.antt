use Rattle.std.proofs.Common.{◌≡◌, ◌∷◌, take}
use Rattle.decision_diagram.proofs.store.key_of.Given as goal

-- the key has the variable and the children so far
abbrev pub invariant-loop-kid : goal.invariant-loop-kid
invariant-loop-kid l = l.key.items ≡ l.var ∷ take l.kid-index l.kids
