use Rattle.std.proofs.Common.{◌≡◌, ℕ, length, slice_get, Some}
use Rattle.wave_text.specs.inner.Changing.{IsNumbering}
use Rattle.wave_text.specs.Signals.{first_number}
use Rattle.wave_text.specs.declared.change.Numbering.{Numbering}
use Rattle.wave_text.proofs.wave.all_numberings.Given as goal

-- those of the machines before this one, and the number of its first signal
abbrev pub invariant-loop-m : goal.invariant-loop-m
invariant-loop-m l = record {
  many : length l.numberings.items ≡ l.m;
  each : (m : ℕ) (s : Numbering) → slice_get l.numberings.items m ≡ Some s → IsNumbering l.net m s;
  number : l.first ≡ first_number l.net l.m;
}
