use Rattle.std.proofs.Common.{◌≡◌, ℕ, ◌<◌, slice_index}
use Rattle.decision_diagram.proofs.store.only_kid.Given as goal

-- the children so far are the first one
abbrev pub invariant-loop-kid : goal.invariant-loop-kid
invariant-loop-kid l = (code : ℕ) → code < l.kid-index → slice_index l.kids code ≡ l.first
