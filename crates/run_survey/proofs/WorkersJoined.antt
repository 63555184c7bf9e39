-- Pieces of a range of seeds, joined in order.
use Rattle.std.proofs.Common.{◌≡◌, ◌⊎◌, ℕ, suc, ◌+◌, ◌*◌, ◌/◌, ◌<◌, ◌≤◌, ◌^◌, inl, inr, le_trans, mul-le-mul_right, div-mul-le_self, le-div_iff_mul-le, one-mul, List, [], ◌∷◌, ◌++◌, length, get_or, Option, Some, None, Result, Ok, IfOk, refl, sym, ap, subst, ◌∙◌, suc-mul, zero-mul, arith}
use Rattle.std.proofs.lemmas.Bool.{cases_lt}
use Rattle.std.proofs.lemmas.List.{get_or_append_left, get_or_push, length_push}
use Rattle.polis_base.specs.declared.NoMemory.{NoMemory}
use Rattle.transition_table.specs.declared.network.Network.{Network}
use Rattle.journals.specs.declared.entry.TraceItem.{TraceItem}
use Rattle.outcome_table.specs.declared.table.Results.{Results}
use Rattle.run_survey.specs.declared.running.Drawing.{Drawing}
use Rattle.run_survey.specs.declared.told.Survey.{Survey}
use Rattle.run_survey.specs.declared.workers.Job.{Job}
use Rattle.run_survey.specs.declared.workers.Piece.{Piece}
use Rattle.run_survey.specs.Runs.{IsSurveyOf}
use Rattle.run_survey.specs.inner.Workers.{AreInRow, ArePieces, CanFollow, ComesTo, IsFollowed, IsPiece, IsSoFar, Task, Tells, runs_of}
use Rattle.run_survey.proofs.RunsJoined.{alike, neighbours, of_runs, runs_are}
use Rattle.run_survey.proofs.Shapes.{shaped}

module _ (net : Network) (monitor : Option Network) (tables : List Results) (trace : List TraceItem) (drawing : Drawing)
  where
    -- pieces by their places
    pub pieces_by_place : (size seed : ℕ) (pieces : List (Result Piece NoMemory))
        → ((k : ℕ) (d : Result Piece NoMemory) → k < length pieces
        → IfOk (get_or pieces k d) (IsPiece net monitor tables trace drawing (seed + k * size) size))
        → ArePieces net monitor tables trace drawing size seed pieces
    pieces_by_place size seed [] each = tt
    pieces_by_place size seed (p ∷ pieces) each = (
      subst (λ (n : ℕ). IfOk p (IsPiece net monitor tables trace drawing n size))
          (let e : seed + 0 * size ≡ seed = omega arith in e) (each 0 p (omega arith)),
      pieces_by_place size (seed + size) pieces (λ k d low.
          subst (λ (n : ℕ). IfOk (get_or pieces k d) (IsPiece net monitor tables trace drawing n size))
          (place k) (each (suc k) d (omega arith))),
    )
      where
        place : (k : ℕ) → seed + suc k * size ≡ seed + size + k * size
        place k =
            ap (λ (n : ℕ). seed + n) (suc-mul k size)
            ∙ (let e : seed + (k * size + size) ≡ seed + size + k * size = omega arith in e)

    -- the next piece, and those after it
    pub next_piece : (size seed : ℕ) (left : List (Result Piece NoMemory))
        (p : Result Piece NoMemory) (rest : List (Result Piece NoMemory)) → left ≡ p ∷ rest
        → ArePieces net monitor tables trace drawing size seed left
        → IfOk p (IsPiece net monitor tables trace drawing seed size)
        × ArePieces net monitor tables trace drawing size (seed + size) rest
    next_piece size seed left p rest is are =
        let both = subst (ArePieces net monitor tables trace drawing size seed) is are in (both.0, both.1)

    pub can_follow : (seed done size : ℕ) (so_far : Option Survey) (piece : Piece)
        → IsSoFar net monitor trace drawing seed done so_far
        → IsPiece net monitor tables trace drawing (seed + done) size piece → done + size < 2 ^ 64
        → CanFollow so_far piece.survey
    can_follow seed done size None piece told is room = tt
    can_follow seed done size (Some s) piece told is room =
        let order = drawing.order in
        let limit = drawing.limit in
        let runs = runs_are net monitor trace order limit seed done s told in
        let more = runs_are net monitor trace order limit (seed + done) size piece.survey is.told in
        record {
          told = of_runs net monitor trace order limit seed done s told;
          next_told = of_runs net monitor trace order limit (seed + done) size piece.survey is.told;
          alike =
              alike net monitor s piece.survey (shaped net monitor trace order limit seed done s told)
              (shaped net monitor trace order limit (seed + done) size piece.survey is.told);
          neighbours = neighbours net monitor trace order limit seed done size s piece.survey told is.told;
          no_others = is.none;
          room = omega arith;
        }

    pub so_far_joined : (seed done size : ℕ) (so_far : Option Survey) (piece : Piece)
        (all : Option Survey) → IsSoFar net monitor trace drawing seed done so_far
        → IsPiece net monitor tables trace drawing (seed + done) size piece
        → IsFollowed so_far piece.survey all
        → IsSoFar net monitor trace drawing seed (done + size) all
    so_far_joined seed done size None piece all told is joins =
        subst (IsSoFar net monitor trace drawing seed (done + size)) (sym joins)
        (subst
        (λ (n : ℕ). IsSurveyOf net monitor trace drawing.order drawing.limit seed n piece.survey)
        (let e : size ≡ done + size = omega arith in e)
        (subst
        (λ (n : ℕ). IsSurveyOf net monitor trace drawing.order drawing.limit n size piece.survey)
        (let e : seed + done ≡ seed = omega arith in e) is.told))
    so_far_joined seed done size (Some s) piece None told is joins = absurd joins
    so_far_joined seed done size (Some s) piece (Some all) told is joins =
        joins net monitor trace drawing.order drawing.limit seed done size told is.told

-- ---- how many runs are left

pub runs_left : (size : ℕ) (pieces : List (Result Piece NoMemory))
    → runs_of size pieces ≡ length pieces * size
runs_left size [] = sym (zero-mul size)
runs_left size (p ∷ pieces) =
    let rest = runs_left size pieces in
    let next = suc-mul (length pieces) size in
    omega arith

pub runs_next : (size : ℕ) (left : List (Result Piece NoMemory)) (p : Result Piece NoMemory)
    (rest : List (Result Piece NoMemory)) → left ≡ p ∷ rest
    → (runs_of size left ≡ size + runs_of size rest) × (length left ≡ suc (length rest))
runs_next size left p rest is = (ap (runs_of size) is, ap length is)

pub runs_none : (size : ℕ) (left : List (Result Piece NoMemory)) → length left ≡ 0
    → runs_of size left ≡ 0
runs_none size [] none = refl
runs_none size (p ∷ left) none = absurd (omega arith)

-- ---- pieces of a task

module _ (task : Task) (runs : ℕ) (so_far : Option Survey) (left rest : List (Result Piece NoMemory)) (p : Result Piece NoMemory) (piece : Piece)
  where
    -- the next piece is of the next runs
    pub next_is : left ≡ p ∷ rest → p ≡ Ok piece → (comes : ComesTo task runs so_far left)
        → IsPiece task.net task.monitor task.tables task.trace task.drawing (task.first + comes.done)
        task.size piece
    next_is is ok comes =
        subst
        (λ (p : Result Piece NoMemory). IfOk p (IsPiece task.net task.monitor task.tables task.trace
        task.drawing (task.first + comes.done) task.size)) ok
        (next_piece task.net task.monitor task.tables task.trace task.drawing task.size
        (task.first + comes.done) left p rest is comes.left).0

    pub next_follows : left ≡ p ∷ rest → p ≡ Ok piece → ComesTo task runs so_far left
        → CanFollow so_far piece.survey
    next_follows is ok comes =
        can_follow task.net task.monitor task.tables task.trace task.drawing task.first comes.done
        task.size so_far piece comes.told (next_is is ok comes)
        (let more = (runs_next task.size left p rest is).0 in
        let sum = comes.sum in
        let room = comes.room in
        omega arith)

    pub comes_on : (all : Option Survey) → left ≡ p ∷ rest → p ≡ Ok piece
        → ComesTo task runs so_far left → IsFollowed so_far piece.survey all
        → ComesTo task runs all rest
    comes_on all is ok comes followed = record {
      done = comes.done + task.size;
      told =
          so_far_joined task.net task.monitor task.tables task.trace task.drawing task.first comes.done
          task.size so_far piece all comes.told (next_is is ok comes) followed;
      left =
          subst
          (λ (n : ℕ). ArePieces task.net task.monitor task.tables task.trace task.drawing task.size n rest)
          (let done = comes.done in
          let first = task.first in
          let size = task.size in
          let e : first + done + size ≡ first + (done + size) = omega arith in e)
          (next_piece task.net task.monitor task.tables task.trace task.drawing task.size
          (task.first + comes.done) left p rest is comes.left).1;
      sum =
          (let more = (runs_next task.size left p rest is).0 in
          let sum = comes.sum in
          omega arith);
      room = comes.room;
    }

-- the pieces of a round
pub round_comes : (task : Task) (done jobs : ℕ) (so_far : Option Survey)
    (pieces : List (Result Piece NoMemory)) → Tells task done so_far
    → ArePieces task.net task.monitor task.tables task.trace task.drawing task.size
    (task.first + done) pieces
    → length pieces ≡ jobs → done + jobs * task.size < 2 ^ 64
    → ComesTo task (done + jobs * task.size) so_far pieces
round_comes task done jobs so_far pieces told left many room = record {
  done = done;
  told = told;
  left = left;
  sum =
      ap (λ (n : ℕ). done + n)
      (runs_left task.size pieces ∙ ap (λ (n : ℕ). n * task.size) many);
  room = room;
}

-- where no pieces are left, all runs are told
pub all_told : (task : Task) (runs : ℕ) (so_far : Option Survey)
    (left : List (Result Piece NoMemory)) → length left ≡ 0 → ComesTo task runs so_far left
    → Tells task runs so_far
all_told task runs so_far left none comes =
    subst (λ (n : ℕ). Tells task n so_far)
    (let size = runs_none task.size left none in
    let sum = comes.sum in
    let e : comes.done ≡ runs = omega arith in e)
    comes.told

-- ---- shares

-- so many pieces of a size that are in the whole
pub share_within : (left size jobs : ℕ) → jobs ≤ left / size → jobs * size ≤ left
share_within left size jobs few =
    le_trans (mul-le-mul_right size few) (div-mul-le_self left size)

pub share_some : (left size : ℕ) → 0 < size → size ≤ left → 0 < left / size
share_some left size some small =
    let one : 1 * size ≤ left = subst (λ (n : ℕ). n ≤ left) (sym (one-mul size)) small in
    let many : 1 ≤ left / size = (le-div_iff_mul-le some).1 one in
    omega arith

-- the next job's seeds are below the end
pub job_room : (first count jobs k most : ℕ) → k < jobs → first + jobs * count ≤ most
    → first + k * count + count ≤ most
job_room first count jobs k most low room =
    let more : suc k * count ≤ jobs * count = mul-le-mul_right count (omega arith) in
    let next = suc-mul k count in
    omega arith

-- one job more in the row
pub row_more : (first count : ℕ) (jobs : List Job) (job : Job) → AreInRow first count jobs
    → job.seeds.first ≡ first + length jobs * count → job.seeds.count ≡ count
    → AreInRow first count (jobs ++ job ∷ [])
row_more first count jobs job row start size k d low = cases (cases_lt k (length jobs))
  where
    cases : ((k < length jobs) ⊎ (length jobs ≤ k))
        → ((get_or (jobs ++ job ∷ []) k d).seeds.first ≡ first + k * count)
        × ((get_or (jobs ++ job ∷ []) k d).seeds.count ≡ count)
    cases (inl inside) =
        let same : get_or jobs k d ≡ get_or (jobs ++ job ∷ []) k d =
        sym (get_or_append_left jobs (job ∷ []) d k inside) in
        subst (λ (j : Job). (j.seeds.first ≡ first + k * count) × (j.seeds.count ≡ count)) same
        (row k d inside)
    cases (inr past) =
        let size_is = length_push jobs job in
        let last : length jobs ≡ k = omega arith in
        subst (λ (j : Job). (j.seeds.first ≡ first + k * count) × (j.seeds.count ≡ count))
        (sym (get_or_push jobs job d k last))
        (start ∙ ap (λ (n : ℕ). first + n * count) last, size)
