-- Command lines with the files of a replay and what the name of the file that is saved begins with,
-- as `migrate NET TRACE JOURNAL STEM` and `wave NET TRACE JOURNAL STEM`.
use Rattle.std.specs.Prelude.{◌≡◌, ℕ, List, [], ◌∷◌}
use Rattle.polis_words.specs.FileWords.{IsFileWord}
use Rattle.polis_words.specs.Replay.{ReplayWords, AreFileWords}

-- what they name
pub record ReplayStemWords : Type 0 where
  pub replay : ReplayWords
  pub stem : List ℕ

-- the command line with this first word names these
pub record AsksReplayStem (word : List ℕ) (words : List (List ℕ)) (asked : ReplayStemWords)
    : Type 0 where
  pub form : words ≡ word ∷ asked.replay.net ∷ asked.replay.trace ∷ asked.replay.journal
      ∷ asked.stem ∷ []
  pub files : AreFileWords asked.replay
  pub stem : IsFileWord asked.stem
