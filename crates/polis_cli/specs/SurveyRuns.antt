-- The runs of a survey are those that `shuffle` saves.
use Rattle.std.specs.Prelude.{◌≡◌, ℕ, ◌+◌, ◌<◌, Bool, List, [], ◌∷◌, slice_get, Option, Some}
use Rattle.polis_base.specs.Host.{Files}
use Rattle.transition_table.specs.declared.network.Network.{Network}
use Rattle.journals.specs.declared.entry.Entry.{Entry}
use Rattle.run_survey.specs.Figures.{figures_of}
use Rattle.run_survey.specs.Watching.{IsSaid}
use Rattle.run_survey.specs.declared.figures.Figures.{Figures}
use Rattle.polis_words.specs.Shuffle.{ShuffleWords}
use Rattle.polis_words.specs.Survey.{SurveyWords}
use Rattle.output_files.specs.declared.product.Product.{Product}
use Rattle.commands.specs.Shuffle.{MakesShuffle}
use Rattle.polis_cli.specs.OneProduct.{held_under}
use Rattle.polis_cli.specs.Survey.{MakesSurvey}

-- the figures of this journal, which is complete or isn't, with what the monitor says of it, where
-- there is one
pub record AreOfJournal (net : Network) (monitor : Option Network) (journal : List Entry)
    (complete : Bool) (figures : Figures) : Type 0 where
  pub are : figures ≡ figures_of net journal complete figures.watched
  pub said : IsSaid net monitor journal figures.watched

-- Of the same network text, trace text, order and limit: of the runs that a survey tells of, that
-- of a seed is the one that `shuffle` saves of this seed. Its figures are those of the journal that
-- is saved, and what the monitor says of it is said of that journal.
abbrev pub SurveyRunsAreDrawn : Type 0
SurveyRunsAreDrawn =
    (survey : SurveyWords) (shuffle : ShuffleWords) (before now : Files) (p q : Product) (k : ℕ)
    (a : MakesSurvey survey before p) (b : MakesShuffle shuffle now q)
    → held_under before (survey.net ∷ survey.trace ∷ [])
    ≡ held_under now (shuffle.net ∷ shuffle.trace ∷ [])
    → survey.order ≡ shuffle.order → survey.limit ≡ shuffle.limit
    → shuffle.seed ≡ survey.seed + k → k < survey.runs
    → (figures : Figures) × (slice_get a.surveyed.figures k ≡ Some figures)
    × AreOfJournal b.net a.monitor b.journal b.complete figures
