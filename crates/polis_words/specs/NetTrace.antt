-- Command lines with a network text and a trace text of it, as `explain NET TRACE`.
use Rattle.std.specs.Prelude.{◌≡◌, ℕ, List, [], ◌∷◌}
use Rattle.polis_words.specs.FileWords.{IsFileWord}

-- what they name
pub record NetTraceWords : Type 0 where
  pub net : List ℕ
  pub trace : List ℕ

-- the command line with this first word names these
pub record AsksNetTrace (word : List ℕ) (words : List (List ℕ)) (asked : NetTraceWords)
    : Type 0 where
  pub form : words ≡ word ∷ asked.net ∷ asked.trace ∷ []
  pub net : IsFileWord asked.net
  pub trace : IsFileWord asked.trace
