-- What is told of many runs by what is looked at in each.
use Rattle.std.specs.Prelude.{◌≡◌, ℕ, ◌<◌, List, map, count_by, length, Option}
use Rattle.run_watch.specs.declared.answer.Watched.{Watched}
use Rattle.run_survey.specs.declared.figures.Figures.{Figures}
use Rattle.run_survey.specs.declared.told.Survey.{Survey}
use Rattle.run_survey.specs.Kinds.{kind_of, kinds_within, most_kinds, others_beyond}
use Rattle.run_survey.specs.Spreads.{AreSpreads}
use Rattle.run_survey.specs.Watching.{found_runs, unfinished_runs}

abbrev pub texts_of : List Figures → List (List ℕ)
texts_of figures = map (λ (one : Figures). one.outputs) figures

abbrev pub said_of : List Figures → List (Option Watched)
said_of figures = map (λ (one : Figures). one.watched) figures

-- of runs with these figures, the first of which has this seed and each the next one
pub record IsSurvey (first : ℕ) (figures : List Figures) (s : Survey) : Type 0 where
  pub some : 0 < length figures
  pub seed : s.seed ≡ first
  pub runs : s.runs ≡ length figures
  pub complete : s.complete ≡ count_by (λ (one : Figures). one.complete) figures
  pub kinds : s.kinds.items
      ≡ map (kind_of first (texts_of figures)) (kinds_within most_kinds (texts_of figures))
  pub others : s.others ≡ others_beyond most_kinds first (texts_of figures)
  pub found : s.found ≡ found_runs first (said_of figures)
  pub unfinished : s.unfinished ≡ unfinished_runs first (said_of figures)
  pub lost : AreSpreads first (map (λ (one : Figures). one.lost) figures) s.lost
  pub unused : AreSpreads first (map (λ (one : Figures). one.unused) figures) s.unused
  pub jammed : AreSpreads first (map (λ (one : Figures). one.jammed) figures) s.jammed
  pub taken : AreSpreads first (map (λ (one : Figures). one.taken) figures) s.taken

-- the survey of some runs
abbrev pub IsOfRuns : Survey → Type 0
IsOfRuns s = (figures : List Figures) × IsSurvey s.seed figures s

-- there are as many numbers of each sort in both, as there are where they are of one network
pub record AreAlike (one other : Survey) : Type 0 where
  pub lost : length one.lost ≡ length other.lost
  pub unused : length one.unused ≡ length other.unused
  pub jammed : length one.jammed ≡ length other.jammed
  pub taken : length one.taken ≡ length other.taken
