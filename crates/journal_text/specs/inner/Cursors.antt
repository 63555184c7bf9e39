-- What is left of a text that is walked piece by piece.
use Rattle.std.specs.Prelude.{◌≡◌, ◌⊎◌, ℕ, ◌+◌, true, ◌∷◌, ◌++◌, length, drop, Option, Some, None, []}
use Rattle.journal_text.specs.Forms.{Text, Texts}
use Rattle.polis_base.specs.Pieces.{lacks}

-- The place is the start of a word, and what stands before it lacks the mark.
abbrev pub SkippedTo : ℕ → Text → ℕ → Type 0
SkippedTo mark text at =
    (at ≡ 0) ⊎ ((prefix : Text) × (text ≡ prefix ++ 32 ∷ drop at text) × (at ≡ length prefix + 1)
    × (lacks mark prefix ≡ true))

-- the words, where there are just three
abbrev pub three_of : Texts → Option (Text × Text × Text)
three_of [] = None
three_of (a ∷ []) = None
three_of (a ∷ b ∷ []) = None
three_of (a ∷ b ∷ c ∷ []) = Some (a, b, c)
three_of (a ∷ b ∷ c ∷ d ∷ words) = None
