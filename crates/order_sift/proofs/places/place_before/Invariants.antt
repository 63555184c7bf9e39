use Rattle.std.proofs.Common.{◌≡◌, ◌+◌, ◌<◌, ◌≤◌, ℕ, true, [], length, get_or}
use Rattle.domains.specs.Orders.{place}
use Rattle.decision_diagram.specs.Sets.{stands}
use Rattle.order_sift.proofs.places.place_before.Given as goal

abbrev pub invariant-loop-y : goal.invariant-loop-y
invariant-loop-y l = record {
  before : (y : ℕ) → y < l.y → stands (get_or l.supports y []) l.var ≡ true
      → l.before ≤ place l.order (l.vars + y);
  greatest : (k : ℕ) → k ≤ length l.order
      → ((y : ℕ) → y < length l.supports → stands (get_or l.supports y []) l.var ≡ true
      → k ≤ place l.order (l.vars + y)) → k ≤ l.before;
  within : l.before ≤ length l.order;
}
