-- What a table leaves open, over all snapshots in their order. What is said of a machine is said of
-- its snapshots that are seen.
use Rattle.std.specs.Prelude.{ℕ, ◌+◌, Bool, cond, not, ◌&&◌, ◌||◌, ◌==◌, nat_lt, List, map, filter, count_by, length, slice_index, slice_set, Option, None}
use Rattle.std.specs.List.{list_any}
use Rattle.polis_base.specs.declared.limits.TheConstants.{SIFTED_SNAPSHOTS_MAX}
use Rattle.polis_base.specs.Lists.{upto, head_of}
use Rattle.domains.specs.AllCodes.{all_codes}
use Rattle.domains.specs.Names.{is_same}
use Rattle.domains.specs.Tables.{product}
use Rattle.transition_table.specs.Computed.{result_codes}
use Rattle.transition_table.specs.Transitions.{reading, result}
use Rattle.transition_table.specs.declared.machine.Machine.{Machine}
use Rattle.journals.specs.Seen.{is_present, is_seen}
use Rattle.table_use.specs.Use.{without, enables, can_fire, is_unused, is_jammed}
use Rattle.table_use.specs.declared.finding.MachineLint.{MachineLint}
use Rattle.table_use.specs.declared.finding.RowLint.{RowLint}
use Rattle.table_use.specs.declared.finding.InputLint.{InputLint}
use Rattle.table_use.specs.declared.finding.Found.{Found}

-- the snapshots that are seen, in order
abbrev pub seen_ones : Machine → List (List ℕ)
seen_ones m = filter (is_seen m) (all_codes m.vars)

-- how many of them pass, and the least that does
abbrev pub found : Machine → (List ℕ → Bool) → Found
found m test =
    record { count = count_by test (seen_ones m); least = head_of (filter test (seen_ones m)) }

-- on how many of them it passes
abbrev pub amount : Machine → (List ℕ → Bool) → ℕ
amount m test = (found m test).count

-- ---- rows

-- the row r is enabled, and k isn't
abbrev pub enables_only : Machine → ℕ → ℕ → List ℕ → Bool
enables_only m r k s = enables m r s && not (enables m k s)

-- k is another row that is enabled wherever r is, and it is before r or enabled on more
abbrev pub is_repeated_by : Machine → ℕ → ℕ → Bool
is_repeated_by m r k =
    not (k == r) && amount m (enables_only m r k) == 0
    && (nat_lt k r || nat_lt (amount m (enables m r)) (amount m (enables m k)))

-- the least row that the row repeats; none where it is enabled on none
abbrev pub repeats : Machine → ℕ → Option ℕ
repeats m r =
    cond (amount m (enables m r) == 0) None
    (head_of (filter (is_repeated_by m r) (upto (length m.rows))))

abbrev pub row_lint : Machine → ℕ → RowLint
row_lint m r = record { never = amount m (enables m r) == 0; repeats = repeats m r }

-- ---- inputs, state variables and outputs

-- some row is enabled, or would be where the input is absent, if that is seen
abbrev pub is_live_with : Machine → ℕ → List ℕ → Bool
is_live_with m i s = can_fire m s || is_seen m (without s i) && can_fire m (without s i)

-- the input is present and changes something
abbrev pub counts : Machine → ℕ → List ℕ → Bool
counts m i s = is_present i s && not (is_unused m i s) && is_live_with m i s

abbrev pub input_lint : Machine → ℕ → InputLint
input_lint m i =
    record { ignored = amount m (counts m i) == 0; unused = found m (is_unused m i) }

-- another code of the state variable x changes the outcome
abbrev pub turns : Machine → ℕ → List ℕ → Bool
turns m x s =
    list_any
    (λ code. not (is_same (result_codes m s)
    (result_codes m (slice_set s (length m.inputs + x) code))))
    (upto (slice_index m.vars (length m.inputs + x)))

-- some row is enabled whose result emits the output y
abbrev pub emits : Machine → ℕ → List ℕ → Bool
emits m y s =
    list_any
    (λ r. enables m r s && not (slice_index (result m r (reading s)).outs y == 0))
    (upto (length m.rows))

-- ---- a machine

-- more snapshots than are searched for an order of variables
abbrev pub is_large : Machine → Bool
is_large m = nat_lt SIFTED_SNAPSHOTS_MAX (product m.vars)

abbrev pub lint_of : Machine → MachineLint
lint_of m =
    record {
      seen = length (seen_ones m);
      fire = amount m (can_fire m);
      jam = found m (is_jammed m);
      rows = map (row_lint m) (upto (length m.rows));
      inputs = map (input_lint m) (upto (length m.inputs));
      states = map (λ x. amount m (turns m x) == 0) (upto (length m.states));
      outputs = map (λ y. amount m (emits m y) == 0) (upto (length m.outputs));
      large = is_large m;
    }
