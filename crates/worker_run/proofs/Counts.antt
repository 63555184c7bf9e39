-- What a worker counts.
use Rattle.std.specs.Prelude.{◌≡◌, ℕ, ◌+◌, ◌-◌, ◌<◌, ◌≤◌}
use Rattle.std.proofs.Common.{◌∙◌, subst, arith}
use Rattle.worker_run.specs.declared.budget.Budget.{Budget}
use Rattle.worker_run.specs.inner.Turns.{Counts}

-- by another number that is the same
pub counts_same : (a b : Budget) (j k : ℕ) → Counts a b j → j ≡ k → Counts a b k
counts_same a b j k h is = subst (Counts a b) is h

-- first so many, and then so many
counts_then : (a b c : Budget) (j k : ℕ) → Counts a b j → Counts b c k → Counts a c (j + k)
counts_then a b c j k h g =
    let first = h.used in
    let second = g.used in
    let most = h.most in
    let within = g.within in
    record { used = omega arith; most = g.most ∙ h.most; within = omega arith }

-- one more delivery has landed
pub one_landed : (a b c : Budget) (n : ℕ) (left : ℕ) → Counts a b (n - left) → left ≤ n → 0 < left
    → Counts b c 1 → Counts a c (n - (left - 1))
one_landed a b c n left h few some g =
    counts_same a c ((n - left) + 1) (n - (left - 1)) (counts_then a b c (n - left) 1 h g)
    (omega arith)
