-- The command line `chart NET TRACE JOURNAL`, with its options.
use Rattle.std.specs.Prelude.{◌≡◌, ℕ, List, ◌∷◌, unwrap_or, codes}
use Rattle.polis_base.specs.declared.limits.TheConstants.{ENTRIES_MAX}
use Rattle.polis_words.specs.Replay.{ReplayWords, AreFileWords}
use Rattle.polis_words.specs.RunOptions.{Said, AskOptions, ShowsPart}

-- what a chart is asked for: the replay that judges the journal, the first entry that is shown, and
-- the first one after it that isn't
pub record ChartWords : Type 0 where
  pub replay : ReplayWords
  pub from : ℕ
  pub to : ℕ

-- the words are options that say these two, and nothing else; where none says so, they are 0 and
-- 60,000
pub record AskPart (words : List (List ℕ)) (from to : ℕ) : Type 0 where
  pub said : Said
  pub asks : AskOptions words said
  pub from_is : from ≡ unwrap_or said.from 0
  pub to_is : to ≡ unwrap_or said.to ENTRIES_MAX
  pub shows_part : ShowsPart said

-- `chart NET TRACE JOURNAL` with these options after it
abbrev pub chart_form : ReplayWords → List (List ℕ) → List (List ℕ)
chart_form replay options =
    codes "chart" ∷ replay.net ∷ replay.trace ∷ replay.journal ∷ options

-- the command line asks for this chart
pub record AsksChart (words : List (List ℕ)) (chart : ChartWords) : Type 0 where
  pub options : List (List ℕ)
  pub form : words ≡ chart_form chart.replay options
  pub files : AreFileWords chart.replay
  pub asks : AskPart options chart.from chart.to
