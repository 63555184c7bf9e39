use Rattle.std.proofs.Common.{◌≡◌, ◌<◌, ◌≤◌, ℕ}
use Rattle.net_core.specs.Emissions.{nth}
use Rattle.net_core.proofs.config.owings.first_left.Given as goal

-- those before this one are struck
abbrev pub invariant-loop-i : goal.invariant-loop-i
invariant-loop-i l = (k : ℕ) → l.start ≤ k → k < l.i → (nth l.records k).left ≡ 0
