use Rattle.std.proofs.Common.{◌≡◌, ◌<◌, ◌≤◌, ℕ, true, take}
use Rattle.domains.specs.Orders.{place}
use Rattle.decision_diagram.specs.Sets.{stands}
use Rattle.order_sift.proofs.places.place_after.Given as goal

abbrev pub invariant-loop-v : goal.invariant-loop-v
invariant-loop-v l = record {
  after : (v : ℕ) → stands (take l.v-index l.support) v ≡ true → place l.order v < l.after;
  least : (k : ℕ) → ((v : ℕ) → stands l.support v ≡ true → place l.order v < k) → l.after ≤ k;
  bound : l.after ≤ 1000;
}
