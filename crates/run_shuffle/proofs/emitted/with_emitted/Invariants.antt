use Rattle.std.proofs.Common.{◌≡◌, ℕ, ◌<◌, ◌≤◌, ◌||◌, ◌==◌, drop, length}
use Rattle.std.specs.Int.{bit_at}
use Rattle.journals.specs.Journals.{emitted, outputs_of}
use Rattle.run_shuffle.proofs.ReceiverSets.{is_receiver}
use Rattle.run_shuffle.proofs.emitted.with_emitted.Given as goal

-- the receivers of the outputs before this one are added
abbrev pub invariant-loop-k : goal.invariant-loop-k
invariant-loop-k l = record {
  machines : (m : ℕ) → m < length l.net.machines
      → (bit_at l.all m == 1 || is_receiver l.net
      (emitted (drop l.k (outputs_of l.net l.machine)) (drop l.k l.codes)) m)
      ≡ (bit_at l.fn.set m == 1 || is_receiver l.net (emitted (outputs_of l.net l.machine) l.codes) m);
  others : (m : ℕ) → length l.net.machines ≤ m → bit_at l.all m ≡ bit_at l.fn.set m;
}
