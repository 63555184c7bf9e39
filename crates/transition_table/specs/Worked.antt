-- What the definitions say of a machine on one snapshot.
use Rattle.std.specs.Prelude.{◌≡◌, ℕ, true, false, List, IsTrue}
use Rattle.transition_table.specs.declared.machine.Machine.{Machine}
use Rattle.transition_table.specs.declared.snapshot.Outcome.{Outcome}
use Rattle.transition_table.specs.Transitions.{reading, IsSnapshot, is_enabled, result, blank, Transition}

-- the outcome that fires with these codes of the state variables and of the outputs
abbrev pub firing : List ℕ → List ℕ → Outcome
firing next outs = record { fires = true; next = next; outs = outs }

-- the row of this number is enabled, and the machine fires with these codes
pub record Fires (m : Machine) (codes : List ℕ) (row : ℕ) (next outs : List ℕ) : Type 0 where
  pub snapshot : IsSnapshot m (reading codes)
  pub enabled : IsTrue (is_enabled m row (reading codes))
  pub gives : result m row (reading codes) ≡ firing next outs
  pub transition : Transition m (reading codes) (firing next outs)

-- no row is enabled, and the outcome is blank
pub record Idles (m : Machine) (codes : List ℕ) : Type 0 where
  pub snapshot : IsSnapshot m (reading codes)
  pub none : (row : ℕ) → is_enabled m row (reading codes) ≡ false
  pub transition : Transition m (reading codes) (blank m)
