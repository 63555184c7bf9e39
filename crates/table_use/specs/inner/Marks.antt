-- Codes that one row allows and another doesn't.
use Rattle.std.specs.Prelude.{◌≡◌, ◌<◌, ℕ, Bool, true, not, ◌||◌, ◌==◌, nat_le, length}
use Rattle.transition_table.specs.declared.machine.Machine.{Machine}
use Rattle.table_use.specs.inner.Boxes.{allowed}

-- with this code of the variable in the place of another a snapshot that is seen still is
abbrev pub is_kept : Machine → ℕ → ℕ → Bool
is_kept m var code = nat_le (length m.inputs) var || not (code == 0)

-- not all such codes of a variable that the one row allows are allowed by the other
pub record HasMore (m : Machine) (r k : ℕ) : Type 0 where
  pub var : ℕ
  pub within : var < length m.vars
  pub more : ¬ ((code : ℕ) → is_kept m var code ≡ true → allowed m r var code ≡ true
      → allowed m k var code ≡ true)
