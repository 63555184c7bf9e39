-- What several workers make of a range of seeds.
use Rattle.std.specs.Prelude.{◌≡◌, ℕ, ◌+◌, ◌*◌, ◌<◌, ◌≤◌, ◌^◌, List, [], ◌∷◌, length, get_or, Option, Some, None, Result, Vec, IfOk, ⊤}
use Rattle.std.specs.declared.alloc.Global.{Global}
use Rattle.polis_base.specs.declared.NoMemory.{NoMemory}
use Rattle.transition_table.specs.declared.network.Network.{Network}
use Rattle.journals.specs.declared.entry.TraceItem.{TraceItem}
use Rattle.outcome_table.specs.declared.table.Results.{Results}
use Rattle.table_use.specs.Memos.{AreMemos}
use Rattle.table_use.specs.declared.memo.Memo.{Memo}
use Rattle.run_survey.specs.declared.running.Drawing.{Drawing}
use Rattle.run_survey.specs.declared.told.Survey.{Survey}
use Rattle.run_survey.specs.declared.workers.Job.{Job}
use Rattle.run_survey.specs.declared.workers.Piece.{Piece}
use Rattle.run_survey.specs.Joins.{CoversBoth}
use Rattle.run_survey.specs.Runs.{IsSurveyOf}
use Rattle.run_survey.specs.Surveys.{AreAlike, IsOfRuns}

-- what a worker knows is so of the network's machines
abbrev pub Knows : Network → List Results → Vec Memo Global → Type 0
Knows net tables memos = AreMemos net tables memos.items

-- a job can be done, and what comes of it has no others
pub record IsReady (net : Network) (tables : List Results) (job : Job) : Type 0 where
  pub knows : Knows net tables job.memos
  pub some : 0 < job.seeds.count
  pub few : job.seeds.count ≤ 32
  pub room : job.seeds.first + job.seeds.count ≤ 2 ^ 64

-- the jobs are of seeds in a row
abbrev pub AreInRow : ℕ → ℕ → List Job → Type 0
AreInRow seed size jobs =
    (k : ℕ) (d : Job) → k < length jobs
    → ((get_or jobs k d).seeds.first ≡ seed + k * size) × ((get_or jobs k d).seeds.count ≡ size)

-- what came of a job of these seeds
pub record IsPiece (net : Network) (monitor : Option Network) (tables : List Results)
    (trace : List TraceItem) (drawing : Drawing) (seed runs : ℕ) (piece : Piece) : Type 0 where
  pub told : IsSurveyOf net monitor trace drawing.order drawing.limit seed runs piece.survey
  pub none : piece.survey.others ≡ None
  pub knows : Knows net tables piece.memos

-- and of jobs in a row
abbrev pub ArePieces : Network → Option Network → List Results → List TraceItem → Drawing → ℕ
    → ℕ → List (Result Piece NoMemory) → Type 0
ArePieces net monitor tables trace drawing size seed [] = ⊤
ArePieces net monitor tables trace drawing size seed (piece ∷ pieces) =
    IfOk piece (IsPiece net monitor tables trace drawing seed size)
    × ArePieces net monitor tables trace drawing size (seed + size) pieces

-- how many runs these pieces are
abbrev pub runs_of : ℕ → List (Result Piece NoMemory) → ℕ
runs_of size [] = 0
runs_of size (piece ∷ pieces) = size + runs_of size pieces

-- what is told after so many runs
abbrev pub IsSoFar : Network → Option Network → List TraceItem → Drawing → ℕ → ℕ → Option Survey
    → Type 0
IsSoFar net monitor trace drawing seed done None = done ≡ 0
IsSoFar net monitor trace drawing seed done (Some s) =
    IsSurveyOf net monitor trace drawing.order drawing.limit seed done s

-- what pieces are of: their runs are of a network, watched by a monitor, if one is given, and
-- drawn from the first seed on, so many in each piece
pub record Task : Type 0 where
  pub net : Network
  pub monitor : Option Network
  pub tables : List Results
  pub trace : List TraceItem
  pub drawing : Drawing
  pub first : ℕ
  pub size : ℕ

-- what is told of so many of its runs
abbrev pub Tells : Task → ℕ → Option Survey → Type 0
Tells task runs so_far =
    IsSoFar task.net task.monitor task.trace task.drawing task.first runs so_far

-- with these pieces after what is told so far, so many of its runs are told
pub record ComesTo (task : Task) (runs : ℕ) (so_far : Option Survey)
    (pieces : List (Result Piece NoMemory)) : Type 0 where
  pub done : ℕ
  pub told : Tells task done so_far
  pub left : ArePieces task.net task.monitor task.tables task.trace task.drawing task.size
      (task.first + done) pieces
  pub sum : done + runs_of task.size pieces ≡ runs
  pub room : runs < 2 ^ 64

-- the one can be joined to the other
pub record Follows (s next : Survey) : Type 0 where
  pub told : IsOfRuns s
  pub next_told : IsOfRuns next
  pub alike : AreAlike s next
  pub neighbours : next.seed ≡ s.seed + s.runs
  pub no_others : next.others ≡ None
  pub room : s.runs + next.runs < 2 ^ 64

abbrev pub CanFollow : Option Survey → Survey → Type 0
CanFollow None next = ⊤
CanFollow (Some s) next = Follows s next

abbrev pub IsFollowed : Option Survey → Survey → Option Survey → Type 0
IsFollowed None next all = all ≡ Some next
IsFollowed (Some s) next None = ⊥
IsFollowed (Some s) next (Some all) = CoversBoth s next all
