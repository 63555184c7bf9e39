-- The places of the variables of an order.
use Rattle.std.specs.Prelude.{◌≡◌, ℕ, ◌<◌, List, length, slice_index}
use Rattle.domains.specs.Orders.{place}

-- the place of each number below the length
pub record ArePlaces (list places : List ℕ) : Type 0 where
  pub same : length places ≡ length list
  pub at : (v : ℕ) → v < length list → slice_index places v ≡ place list v
