-- What levels are counted from.
use Rattle.std.specs.Prelude.{◌≡◌, ◌↔◌, ℕ, ◌+◌, ◌*◌, ◌<◌, ◌≤◌, List, [], length, get_or, slice_index}
use Rattle.polis_base.specs.declared.limits.TheConstants.{SIFTED_SNAPSHOTS_MAX}
use Rattle.domains.specs.Tables.{product}
use Rattle.transition_table.specs.declared.machine.Machine.{Machine}
use Rattle.transition_table.specs.Computed.{result_code, result_codes}
use Rattle.order_sift.specs.declared.points.Points.{Points}
use Rattle.order_sift.specs.inner.Classes.{snapshot_at, AreMarks}
use Rattle.order_sift.specs.inner.Pairs.{AreBelow}

-- for each snapshot there is one that has this code
abbrev pub are_within : List ℕ → ℕ → ℕ → Type 0
are_within codes stride code = (i : ℕ) → i < length codes
    → (slice_index codes i * stride ≤ i + code * stride)
    × (i + code * stride < length codes + slice_index codes i * stride)

-- codes of a variable for so many places, for each of which there is one that has the first code
pub record AreCodesFor (n : ℕ) (codes : List ℕ) (stride : ℕ) : Type 0 where
  pub long : length codes ≡ n
  pub within : are_within codes stride 0

-- the variables' codes
pub record AreVariables (m : Machine) (codes : List (List ℕ)) : Type 0 where
  pub wide : length codes ≡ length m.vars
  pub long : (v : ℕ) → v < length m.vars → length (get_or codes v []) ≡ product m.vars
  pub code : (v i : ℕ) → v < length m.vars → i < product m.vars
      → slice_index (get_or codes v []) i ≡ slice_index (snapshot_at m i) v

-- the results' codes
pub record AreResults (m : Machine) (results : List (List ℕ)) : Type 0 where
  pub wide : length results ≡ length m.results
  pub long : (y : ℕ) → y < length m.results → length (get_or results y []) ≡ product m.vars
  pub below : (y : ℕ) → y < length m.results → AreBelow 33 (get_or results y [])
  pub code : (y i : ℕ) → y < length m.results → i < product m.vars
      → slice_index (get_or results y []) i ≡ result_code m y (snapshot_at m i)

-- numbers for the outcomes of the snapshots
pub record AreOutcomes (m : Machine) (outcomes : List ℕ) : Type 0 where
  pub long : length outcomes ≡ product m.vars
  pub same : (i j : ℕ) → i < product m.vars → j < product m.vars
      → (slice_index outcomes i ≡ slice_index outcomes j)
      ↔ (result_codes m (snapshot_at m i) ≡ result_codes m (snapshot_at m j))

pub record IsPrepared (m : Machine) (points : Points) : Type 0 where
  pub snapshots : points.snapshots ≡ product m.vars
  pub variables : AreVariables m points.codes
  pub results : AreResults m points.results
  pub wide : length points.marks ≡ length m.vars + length m.results
  pub marks : (x : ℕ) → x < length m.vars + length m.results
      → AreMarks m x (get_or points.marks x [])

-- of a machine of few snapshots
pub record AreFewPoints (m : Machine) (points : Points) : Type 0 where
  pub few : product m.vars ≤ SIFTED_SNAPSHOTS_MAX
  pub prepared : IsPrepared m points
