-- Command lines with the files of a replay, as `replay NET TRACE JOURNAL`, `losses NET TRACE
-- JOURNAL` and `cover NET TRACE JOURNAL`.
use Rattle.std.specs.Prelude.{◌≡◌, ℕ, List, [], ◌∷◌}
use Rattle.polis_words.specs.FileWords.{IsFileWord}

-- what they name
pub record ReplayWords : Type 0 where
  pub net : List ℕ
  pub trace : List ℕ
  pub journal : List ℕ

-- each of them may be a file's name
pub record AreFileWords (replay : ReplayWords) : Type 0 where
  pub net : IsFileWord replay.net
  pub trace : IsFileWord replay.trace
  pub journal : IsFileWord replay.journal

-- the command line with this first word names these
pub record AsksReplay (word : List ℕ) (words : List (List ℕ)) (asked : ReplayWords) : Type 0 where
  pub form : words ≡ word ∷ asked.net ∷ asked.trace ∷ asked.journal ∷ []
  pub files : AreFileWords asked
