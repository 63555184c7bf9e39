-- The survey of ten runs of a network of two machines that read one event.
use Rattle.std.specs.Prelude.{◌≡◌, ℕ, true, List, [], ◌∷◌, ◌++◌, Option, None, Some, codes}
use Rattle.polis_base.specs.Lines.{line}
use Rattle.run_watch.specs.Samples.{late_at}
use Rattle.run_watch.specs.declared.answer.Watched.{Watched}
use Rattle.run_watch.specs.declared.answer.Watched.TheVariants.{Unfinished}
use Rattle.run_survey.specs.declared.figures.Figures.{Figures}
use Rattle.run_survey.specs.declared.told.FoundRuns.{FoundRuns}
use Rattle.run_survey.specs.declared.told.Kind.{Kind}
use Rattle.run_survey.specs.declared.told.Spread.{Spread}
use Rattle.run_survey.specs.declared.told.Survey.{Survey}

-- of a run with these outputs
abbrev pub two_figures : List ℕ → Figures
two_figures outputs = record {
  complete = true;
  outputs = outputs;
  lost = 0 ∷ 0 ∷ [];
  unused = 0 ∷ 0 ∷ [];
  jammed = 0 ∷ 0 ∷ [];
  taken = 1 ∷ 1 ∷ [];
  watched = None;
}

abbrev pub a_first : List ℕ
a_first = line (codes "ya") ++ line (codes "yb")

abbrev pub b_first : List ℕ
b_first = line (codes "yb") ++ line (codes "ya")

-- of the seeds from 0 to 9
abbrev pub ten_figures : List Figures
ten_figures =
    two_figures a_first ∷ two_figures a_first ∷ two_figures b_first ∷ two_figures a_first
    ∷ two_figures a_first ∷ two_figures b_first ∷ two_figures a_first ∷ two_figures a_first
    ∷ two_figures a_first ∷ two_figures a_first ∷ []

abbrev pub kind : List ℕ → ℕ → ℕ → Kind
kind outputs count seed = record { outputs = outputs; count = count; seed = seed }

abbrev pub spread : ℕ → ℕ → ℕ → ℕ → Spread
spread least most seed runs =
    record { least = least; most = most; seed = seed; runs = runs }

-- 0 in each run, and 1 in each
abbrev pub nothing : Spread
nothing = spread 0 0 0 0

abbrev pub once_each : Spread
once_each = spread 1 1 0 10

-- these fields are those of the survey
pub record TellsTen (s : Survey) : Type 0 where
  pub seed : s.seed ≡ 0
  pub runs : s.runs ≡ 10
  pub complete : s.complete ≡ 10
  pub kinds : s.kinds.items ≡ kind a_first 8 0 ∷ kind b_first 2 2 ∷ []
  pub others : s.others ≡ None
  pub lost : s.lost ≡ nothing ∷ nothing ∷ []
  pub unused : s.unused ≡ nothing ∷ nothing ∷ []
  pub jammed : s.jammed ≡ nothing ∷ nothing ∷ []
  pub taken : s.taken ≡ once_each ∷ once_each ∷ []
  pub found : s.found ≡ None
  pub unfinished : s.unfinished ≡ None

-- what a monitor says of three runs: it is cut off in the first, and complains of the others
abbrev pub three_said : List (Option Watched)
three_said = Some Unfinished ∷ Some (late_at 3) ∷ Some (late_at 1) ∷ []

abbrev pub late : ℕ → ℕ → ℕ → FoundRuns
late count seed place = record {
  count = count;
  seed = seed;
  complaint = record { place = place; event = 2; code = 1 };
}
