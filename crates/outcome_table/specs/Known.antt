-- Outcomes that are found by their codes.
use Rattle.std.specs.Prelude.{◌≡◌, ℕ, ◌<◌, List, [], length, get_or, Some}
use Rattle.polis_base.specs.Index.{Keyed, found}

-- what stands under codes is the number of an outcome with these codes
abbrev pub AreKnown : List (List ℕ) → Keyed → Type 0
AreKnown outcomes known =
    (codes : List ℕ) (k : ℕ)
    → found known codes ≡ Some k
    → (k < length outcomes) × (get_or outcomes k [] ≡ codes)
