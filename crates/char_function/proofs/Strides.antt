-- How far apart snapshots stand.
use Rattle.std.proofs.Common.{◌≡◌, ℕ, ◌+◌, ◌<◌, List, length, drop, slice_index}
use Rattle.domains.specs.Tables.{product}

-- the strides of the first variables
pub record AreStridesTo (vars strides : List ℕ) (n : ℕ) : Type 0 where
  pub long : length strides ≡ n
  pub each : (v : ℕ) → v < n → slice_index strides v ≡ product (drop (v + 1) vars)
