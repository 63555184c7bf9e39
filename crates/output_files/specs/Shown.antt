-- What is shown of a line.
use Rattle.std.specs.Prelude.{◌≡◌, ◌⊎◌, ℕ, List, ◌++◌, take}

-- A text was shown whole, or some prefix of it where the count of write faults rose, or nothing,
-- whether or not it rose.
abbrev pub ShowsPrefix : List ℕ → Type 0 → List ℕ → List ℕ → Type 0
ShowsPrefix text rose old new = (new ≡ old ++ text) ⊎ ((k : ℕ) × (new ≡ old ++ take k text) × rose)
    ⊎ (new ≡ old)
