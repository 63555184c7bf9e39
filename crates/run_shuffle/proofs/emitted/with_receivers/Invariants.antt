use Rattle.std.proofs.Common.{◌≡◌, ℕ, ◌<◌, ◌≤◌, ◌||◌, ◌==◌, length, take}
use Rattle.std.specs.Int.{bit_at}
use Rattle.transition_table.specs.NetworkFacts.{has}
use Rattle.run_shuffle.proofs.emitted.with_receivers.Given as goal

-- the receivers before this one are added
abbrev pub invariant-loop-i : goal.invariant-loop-i
invariant-loop-i l = record {
  machines : (m : ℕ) → m < length l.net.machines
      → (bit_at l.all m == 1) ≡ (bit_at l.fn.set m == 1 || has (take l.i l.receivers) m);
  others : (m : ℕ) → length l.net.machines ≤ m → bit_at l.all m ≡ bit_at l.fn.set m;
}
