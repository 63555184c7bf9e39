-- Sets of small numbers: those below 64 as one number, those below 512 as eight, one bit each.
use Rattle.std.specs.Prelude.{◌≡◌, ℕ, ◌/◌, ◌%◌, Bool, ◌&&◌, ◌==◌, List, filter, slice_index}
use Rattle.std.specs.Int.{bit_at}
use Rattle.polis_base.specs.Lists.{upto}

-- the members of a set of numbers below 64, in order
unfoldable pub members : ℕ → List ℕ
members set = filter (λ k. bit_at set k == 1) (upto 64)

-- the number is a member of a set of numbers below 512
abbrev pub has_member : List ℕ → ℕ → Bool
has_member words k = bit_at (slice_index words (k / 64)) (k % 64) == 1

-- the members of such a set, in order
unfoldable pub members_of : List ℕ → List ℕ
members_of words = filter (has_member words) (upto 512)

-- the set has the members that are in both of two
abbrev pub IsBoth : List ℕ → List ℕ → List ℕ → Type 0
IsBoth a b set = (k : ℕ) → has_member set k ≡ (has_member a k && has_member b k)
