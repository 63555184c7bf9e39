-- The command line `survey NET TRACE RUNS`, with its options.
use Rattle.std.specs.Prelude.{◌≡◌, ℕ, ◌+◌, ◌≤◌, ◌^◌, List, ◌∷◌, Option, unwrap_or, codes, decimal}
use Rattle.polis_base.specs.declared.limits.TheConstants.{ENTRIES_MAX, RUNS_MAX}
use Rattle.polis_words.specs.declared.requests.order.GivenOrder.{GivenOrder}
use Rattle.polis_words.specs.declared.requests.order.GivenOrder.TheVariants.{Mixed}
use Rattle.polis_words.specs.FileWords.{IsFileWord}
use Rattle.polis_words.specs.RunOptions.{Said, AskOptions, DrawsMany}

-- what a survey is asked for: the names of its files, how many runs are drawn and from which
-- number the first one is, which moves they are offered, the most entries that a journal may have,
-- how many workers draw them, and the name of the monitor that watches each, where one does
pub record SurveyWords : Type 0 where
  pub net : List ℕ
  pub trace : List ℕ
  pub runs : ℕ
  pub seed : ℕ
  pub order : GivenOrder
  pub limit : ℕ
  pub workers : ℕ
  pub monitor : Option (List ℕ)

-- the words are options that say this of the survey, and none is of another command; where none
-- says so, the first run is drawn from 0, the order is drawn too, the limit is 60,000, there is one
-- worker, and no monitor
pub record AskSurvey (words : List (List ℕ)) (survey : SurveyWords) : Type 0 where
  pub said : Said
  pub asks : AskOptions words said
  pub seed : survey.seed ≡ unwrap_or said.seed 0
  pub order : survey.order ≡ unwrap_or said.order Mixed
  pub limit : survey.limit ≡ unwrap_or said.limit ENTRIES_MAX
  pub workers : survey.workers ≡ unwrap_or said.workers 1
  pub monitor : survey.monitor ≡ said.watch
  pub draws_many : DrawsMany said

-- `survey NET TRACE RUNS` with these options after it, the number of runs in decimal
abbrev pub survey_form : SurveyWords → List (List ℕ) → List (List ℕ)
survey_form survey options =
    codes "survey" ∷ survey.net ∷ survey.trace ∷ decimal survey.runs ∷ options

-- the command line asks for this survey: of 1 to 100,000 runs, each with a seed below 2^64
pub record AsksSurvey (words : List (List ℕ)) (survey : SurveyWords) : Type 0 where
  pub options : List (List ℕ)
  pub form : words ≡ survey_form survey options
  pub net : IsFileWord survey.net
  pub trace : IsFileWord survey.trace
  pub some : 1 ≤ survey.runs
  pub few : survey.runs ≤ RUNS_MAX
  pub seeds : survey.seed + survey.runs ≤ 2 ^ 64
  pub asks : AskSurvey options survey
