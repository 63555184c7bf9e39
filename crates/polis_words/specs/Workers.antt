-- How many workers do what is asked for.
use Rattle.std.specs.Prelude.{ℕ, ◌<◌, List}
use Rattle.polis_words.specs.declared.requests.Request.{Request}
use Rattle.polis_words.specs.declared.requests.Request.TheVariants.{Run, Survey}
use Rattle.polis_words.specs.Requests.{Asks}

-- those that a run or a survey is asked for with, and one for any other request
abbrev pub workers_of : Request → ℕ
workers_of (Run run) = run.workers
workers_of (Survey survey) = survey.workers
workers_of other = 1

-- the command line asks for something that more than one worker does
abbrev pub NeedsWorkers : List (List ℕ) → Type 0
NeedsWorkers words = (request : Request) × Asks words request × (1 < workers_of request)
