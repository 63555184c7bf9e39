use Rattle.std.proofs.Common.{◌≡◌, ◌<◌, ℕ, true}
use Rattle.char_function.specs.inner.Orders.{stands_after}
use Rattle.char_function.proofs.allowed.is_allowed.Given as goal

abbrev pub invariant-loop-y : goal.invariant-loop-y
invariant-loop-y l = (k : ℕ) → k < l.y → stands_after l.vars l.s l.order k ≡ true
