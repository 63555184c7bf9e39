-- The command line `run NET TRACE STEM`, with its options.
use Rattle.std.specs.Prelude.{◌≡◌, ℕ, List, ◌∷◌, ◌++◌, Option, unwrap_or, codes}
use Rattle.polis_base.specs.declared.limits.TheConstants.{ENTRIES_MAX}
use Rattle.polis_words.specs.FileWords.{IsFileWord}
use Rattle.polis_words.specs.RunOptions.{Said, AskOptions, DrawsNothing}

-- what a run is asked for: the names of its files, how many workers run it, the most entries that
-- its journal may have, and the name of the image whose code it runs, where it runs one
pub record RunWords : Type 0 where
  pub net : List ℕ
  pub trace : List ℕ
  pub stem : List ℕ
  pub workers : ℕ
  pub limit : ℕ
  pub image : Option (List ℕ)

-- `run NET TRACE STEM` with these options after it
abbrev pub run_form : RunWords → List (List ℕ) → List (List ℕ)
run_form run options = codes "run" ∷ run.net ∷ run.trace ∷ run.stem ∷ options

-- the command line asks for this run: `run NET TRACE STEM`, and options after it, each of which
-- says the workers, the limit or an image; where none says so, there is one worker, and the limit is
-- 60,000
pub record AsksRun (words : List (List ℕ)) (run : RunWords) : Type 0 where
  pub options : List (List ℕ)
  pub form : words ≡ run_form run options
  pub net : IsFileWord run.net
  pub trace : IsFileWord run.trace
  pub stem : IsFileWord run.stem
  pub said : Said
  pub asks : AskOptions options said
  pub workers : run.workers ≡ unwrap_or said.workers 1
  pub limit : run.limit ≡ unwrap_or said.limit ENTRIES_MAX
  pub image : run.image ≡ said.image
  pub draws_nothing : DrawsNothing said

-- the name of the outputs' file
abbrev pub out_name : RunWords → List ℕ
out_name run = run.stem ++ codes ".out"

-- the name of the journal's file
abbrev pub journal_name : RunWords → List ℕ
journal_name run = run.stem ++ codes ".jnl"

-- the name of the listing's file
abbrev pub listing_name : RunWords → List ℕ
listing_name run = run.stem ++ codes ".lst"
