use Rattle.std.proofs.Common.{◌≡◌, ◌&&◌, ◌==◌, ℕ}
use Rattle.std.specs.Prelude.{nat_lt}
use Rattle.std.specs.Int.{bit_at}
use Rattle.journals.specs.Journals.{reads}
use Rattle.net_core.proofs.config.readers.readers_of.Given as goal

-- the machines before this one that read the event
abbrev pub invariant-loop-m : goal.invariant-loop-m
invariant-loop-m l = (k : ℕ) → (bit_at l.set k == 1) ≡ (nat_lt k l.m && reads l.net k l.event)
