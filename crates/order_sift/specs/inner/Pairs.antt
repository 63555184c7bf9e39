-- Pairs of numbers at places, and numbers for the pairs. Of each pair the one number is below the
-- number of places, and the other one below that or the code of a result.
use Rattle.std.specs.Prelude.{◌≡◌, ℕ, ◌+◌, ◌-◌, ◌*◌, ◌<◌, ◌≤◌, List, length, slice_index}
use Rattle.polis_base.specs.declared.limits.TheConstants.{SIFTED_SNAPSHOTS_MAX}

-- each number is below this one
abbrev pub AreBelow : ℕ → List ℕ → Type 0
AreBelow n numbers = (i : ℕ) → i < length numbers → slice_index numbers i < n

-- a pair as one number
abbrev pub key_of : ℕ → ℕ → ℕ → ℕ
key_of places one other = other * places + one

-- the pairs of so many places have room
abbrev pub HasRoom : ℕ → List ℕ → Type 0
HasRoom places seen = places * (places + 33) ≤ length seen

-- the pair of a place: what stands one stride before it, and what stands there
abbrev pub pair_at : List ℕ → List ℕ → ℕ → ℕ → ℕ
pair_at one other stride p =
    key_of (length one) (slice_index one (p - stride)) (slice_index other p)

-- two lists of numbers for the same places, not too many, and room for their pairs
pub record ArePairs (one other seen : List ℕ) : Type 0 where
  pub room : HasRoom (length one) seen
  pub few : length one ≤ SIFTED_SNAPSHOTS_MAX
  pub long : length other ≡ length one
  pub one_below : AreBelow (length one) one
  pub other_below : AreBelow (length one + 33) other

-- numbers for so many places, each below their number
pub record AreNumbersFor (n : ℕ) (numbers : List ℕ) : Type 0 where
  pub long : length numbers ≡ n
  pub below : AreBelow n numbers

-- Each of the first n places with a pair has the first place with its pair as its number, and that
-- stands under the pair.
abbrev pub HaveFirsts : (ℕ → ℕ) → List ℕ → List ℕ → ℕ → ℕ → (ℕ → Type 0) → Type 0
HaveFirsts pair seen made stride n paired = (p : ℕ) → p < n → paired p
    → (stride ≤ slice_index made p) × (slice_index made p < n)
    × (pair (slice_index made p) ≡ pair p) × (slice_index seen (pair p) ≡ slice_index made p)
