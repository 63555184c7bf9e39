-- What a function of codes decides.
use Rattle.std.specs.Prelude.{◌≡◌, ◌↔◌, ℕ, Bool, true, List, IsTrue}
use Rattle.domains.specs.Tables.{fits}

-- of codes that fit, the function is true exactly of those for which the relation holds
abbrev pub IsTrueWhere : List ℕ → (List ℕ → Bool) → (List ℕ → Type 0) → Type 0
IsTrueWhere sizes f Holds =
    (codes : List ℕ) → IsTrue (fits sizes codes) → (f codes ≡ true) ↔ Holds codes
