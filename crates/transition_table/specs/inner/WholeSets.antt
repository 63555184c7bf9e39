-- All codes of each variable, as sets.
use Rattle.std.specs.Prelude.{◌≡◌, ◌<◌, ◌==◌, ℕ, nat_lt, List, length, slice_index}
use Rattle.std.specs.Int.{bit_at}

pub record AreWhole (vars sets : List ℕ) : Type 0 where
  pub long : length sets ≡ length vars
  pub each : (var : ℕ) → var < length vars → (code : ℕ)
      → (bit_at (slice_index sets var) code == 1) ≡ nat_lt code (slice_index vars var)
