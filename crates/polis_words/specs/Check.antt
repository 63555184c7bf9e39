-- Command lines with a network text, as `check NET` and `lint NET`.
use Rattle.std.specs.Prelude.{◌≡◌, ℕ, List, [], ◌∷◌}
use Rattle.polis_words.specs.FileWords.{IsFileWord}

-- what they name
pub record CheckWords : Type 0 where
  pub net : List ℕ

-- the command line with this first word names these
pub record AsksNet (word : List ℕ) (words : List (List ℕ)) (asked : CheckWords) : Type 0 where
  pub form : words ≡ word ∷ asked.net ∷ []
  pub net : IsFileWord asked.net
