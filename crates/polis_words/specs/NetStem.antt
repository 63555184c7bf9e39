-- Command lines with a network text and what the name of the file that is saved begins with, as
-- `compile NET STEM`, `draw NET STEM` and `image NET STEM`.
use Rattle.std.specs.Prelude.{◌≡◌, ℕ, List, [], ◌∷◌}
use Rattle.polis_words.specs.FileWords.{IsFileWord}

-- what they name
pub record NetStemWords : Type 0 where
  pub net : List ℕ
  pub stem : List ℕ

-- the command line with this first word names these
pub record AsksNetStem (word : List ℕ) (words : List (List ℕ)) (asked : NetStemWords)
    : Type 0 where
  pub form : words ≡ word ∷ asked.net ∷ asked.stem ∷ []
  pub net : IsFileWord asked.net
  pub stem : IsFileWord asked.stem
