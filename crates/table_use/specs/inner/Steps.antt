-- What one reaction makes of what was counted before it.
use Rattle.std.specs.Prelude.{◌≡◌, ℕ, ◌+◌, ◌≤◌, Bool, cond, not, ◌&&◌, List, length, slice_get, Some, None}
use Rattle.std.specs.List.{All}
use Rattle.std.specs.Option.{option_or}
use Rattle.transition_table.specs.declared.machine.Machine.{Machine}
use Rattle.journals.specs.Seen.{is_present}
use Rattle.table_use.specs.Use.{enables, is_jammed, is_unused}
use Rattle.table_use.specs.declared.tally.Tally.{Tally}
use Rattle.table_use.specs.declared.used.InputUse.{InputUse}
use Rattle.table_use.specs.declared.used.MachineUse.{MachineUse}

-- of no entry
abbrev pub no_tally : Tally
no_tally = record { count = 0; first = None }

-- the entry at place p is counted where it holds of it
abbrev pub tally_after : ℕ → Bool → Tally → Tally
tally_after p holds t =
    record {
      count = cond holds (t.count + 1) t.count;
      first = cond holds (option_or t.first (Some p)) t.first;
    }

-- the input i of a snapshot on which the machine fires, or doesn't
abbrev pub input_after : Machine → ℕ → List ℕ → Bool → ℕ → InputUse → InputUse
input_after m p s fires i input =
    record {
      read = tally_after p (fires && is_present i s) input.read;
      unused = tally_after p (fires && is_unused m i s) input.unused;
    }

-- a reaction on a snapshot, which fires or doesn't
pub record IsUseAfter (m : Machine) (p : ℕ) (s : List ℕ) (fires : Bool)
    (old new : MachineUse) : Type 0 where
  pub fired : new.fired ≡ tally_after p fires old.fired
  pub idle : new.idle ≡ tally_after p (not fires) old.idle
  pub jammed : new.jammed ≡ tally_after p (is_jammed m s) old.jammed
  pub rows_long : length new.rows ≡ length old.rows
  pub rows : (r : ℕ) (t : Tally) → slice_get old.rows r ≡ Some t
      → slice_get new.rows r ≡ Some (tally_after p (fires && enables m r s) t)
  pub inputs_long : length new.inputs ≡ length old.inputs
  pub inputs : (i : ℕ) (t : InputUse) → slice_get old.inputs i ≡ Some t
      → slice_get new.inputs i ≡ Some (input_after m p s fires i t)

-- none of its numbers is above p
abbrev pub IsFew : ℕ → Tally → Type 0
IsFew p t = t.count ≤ p

abbrev pub InputIsFew : ℕ → InputUse → Type 0
InputIsFew p t = IsFew p t.read × IsFew p t.unused

pub record AreFew (m : Machine) (p : ℕ) (used : MachineUse) : Type 0 where
  pub fired : IsFew p used.fired
  pub idle : IsFew p used.idle
  pub jammed : IsFew p used.jammed
  pub rows : All (IsFew p) used.rows
  pub rows_long : length used.rows ≡ length m.rows
  pub inputs : All (InputIsFew p) used.inputs
  pub inputs_long : length used.inputs ≡ length m.inputs
