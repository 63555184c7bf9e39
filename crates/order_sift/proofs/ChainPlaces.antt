-- Places of an order, and of what its chain lists for them.
use Rattle.std.proofs.Common.{◌≡◌, ◌+◌, ◌-◌, ◌<◌, ◌≤◌, ℕ, arith}

-- an item before the end of an order of so many items, whose chain has one more
pub record IsItemOf (i items listed : ℕ) : Type 0 where
  pub low : i < items
  pub own : items - i < listed
  pub front : i ≤ items
  pub some : 1 ≤ items
  pub next : items - 1 - i < listed
  pub last : i ≤ items - 1
  pub end : items < listed

pub item_of : (i other long items listed : ℕ) → i ≤ other → other < long → items ≡ long
    → listed ≡ long + 1 → IsItemOf i items listed
item_of i other long items listed below inside is wide = record {
  low = omega arith;
  own = omega arith;
  front = omega arith;
  some = omega arith;
  next = omega arith;
  last = omega arith;
  end = omega arith;
}

-- a turn back from a place
pub record IsTurn (i first t : ℕ) : Type 0 where
  pub high : first ≤ i - 1 - t
  pub early : t ≤ i - 1
  pub some : 1 ≤ i
  pub low : i - 1 - t ≤ i
  pub before : i - 1 - t < i

pub turn_of : (i first t : ℕ) → t < i - first → IsTurn i first t
turn_of i first t low = record {
  high = omega arith;
  early = omega arith;
  some = omega arith;
  low = omega arith;
  before = omega arith;
}
