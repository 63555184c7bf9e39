-- What is found of the snapshots that were walked over, and what one more makes of it.
use Rattle.std.specs.Prelude.{◌≡◌, ℕ, ◌+◌, ◌≤◌, ◌==◌, Bool, cond, not, ◌&&◌, List, map, count_by, filter, length, slice_get, slice_set, Some}
use Rattle.std.specs.List.{All}
use Rattle.polis_base.specs.Lists.{head_of, upto}
use Rattle.domains.specs.Names.{is_same}
use Rattle.transition_table.specs.Computed.{result_codes}
use Rattle.transition_table.specs.declared.machine.Machine.{Machine}
use Rattle.table_use.specs.Lint.{counts}
use Rattle.journals.specs.Seen.{is_seen}
use Rattle.table_use.specs.Use.{can_fire, is_jammed, is_unused}
use Rattle.table_use.specs.declared.finding.Found.{Found}
use Rattle.table_use.specs.declared.finding.InputLint.{InputLint}
use Rattle.table_use.specs.declared.walk.Walked.{Walked}

-- those of the lists that are seen and pass
abbrev pub found_in : Machine → (List ℕ → Bool) → List (List ℕ) → Found
found_in m test lists =
    record {
      count = count_by test (filter (is_seen m) lists);
      least = head_of (filter test (filter (is_seen m) lists));
    }

-- none of them is seen and passes
abbrev pub is_none : Machine → (List ℕ → Bool) → List (List ℕ) → Bool
is_none m test lists = (found_in m test lists).count == 0

-- with the code 0 of the state variable x the outcome is another
abbrev pub differs : Machine → ℕ → List ℕ → Bool
differs m x s =
    not (is_same (result_codes m s) (result_codes m (slice_set s (length m.inputs + x) 0)))

-- what is said of an input by these lists
abbrev pub input_in : Machine → List (List ℕ) → ℕ → InputLint
input_in m lists i =
    record { ignored = is_none m (counts m i) lists; unused = found_in m (is_unused m i) lists }

-- these lists were walked over
pub record IsWalked (m : Machine) (lists : List (List ℕ)) (walked : Walked) : Type 0 where
  pub fire : walked.fire ≡ (found_in m (can_fire m) lists).count
  pub jam : walked.jam ≡ found_in m (is_jammed m) lists
  pub inputs : walked.inputs.items ≡ map (input_in m lists) (upto (length m.inputs))
  pub states : walked.states ≡ map (λ x. is_none m (differs m x) lists) (upto (length m.states))

-- ---- one snapshot more

abbrev pub found_after : Bool → List ℕ → Found → Found
found_after holds codes found =
    record {
      count = cond holds (found.count + 1) found.count;
      least = cond holds (cond (found.count == 0) (Some codes) found.least) found.least;
    }

abbrev pub input_met : Machine → List ℕ → ℕ → InputLint → InputLint
input_met m s i input =
    record {
      ignored = input.ignored && not (counts m i s);
      unused = found_after (is_unused m i s) s input.unused;
    }

pub record IsWalkedOn (m : Machine) (s : List ℕ) (old new : Walked) : Type 0 where
  pub fire : new.fire ≡ cond (can_fire m s) (old.fire + 1) old.fire
  pub jam : new.jam ≡ found_after (is_jammed m s) s old.jam
  pub inputs_long : length new.inputs.items ≡ length old.inputs.items
  pub inputs : (i : ℕ) (x : InputLint) → slice_get old.inputs.items i ≡ Some x
      → slice_get new.inputs.items i ≡ Some (input_met m s i x)
  pub states_long : length new.states ≡ length old.states
  pub states : (x : ℕ) (b : Bool) → slice_get old.states x ≡ Some b
      → slice_get new.states x ≡ Some (b && not (differs m x s))

-- none of its numbers is above n
abbrev pub InputIsFew : ℕ → InputLint → Type 0
InputIsFew n input = input.unused.count ≤ n

pub record IsFew (m : Machine) (n : ℕ) (walked : Walked) : Type 0 where
  pub fire : walked.fire ≤ n
  pub jam : walked.jam.count ≤ n
  pub inputs : All (InputIsFew n) walked.inputs.items
  pub inputs_long : length walked.inputs.items ≡ length m.inputs
  pub states_long : length walked.states ≡ length m.states
