-- What is known of a host over the system's files: how many of its calls have failed.
use Rattle.std.specs.Prelude.{ℕ}

pub record Faults : Type 0 where
  pub load_faults : ℕ
  pub write_faults : ℕ

-- no call has failed
abbrev pub no_faults : Faults
no_faults = record { load_faults = 0; write_faults = 0 }
