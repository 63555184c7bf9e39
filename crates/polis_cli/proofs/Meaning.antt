-- What each command means is lawful.
use Rattle.std.proofs.Common.{◌≡◌, ◌<◌, ℕ, List, refl, arith}
use Rattle.polis_words.specs.declared.requests.Request.{Request}
use Rattle.polis_words.specs.declared.requests.Request.TheVariants.{Run, OnNet, FromNet, Replay, OnJournal, FromJournal, Demo, Bound, Equiv, Explain, Shuffle, Watch, Survey, Chart}
use Rattle.polis_words.specs.Requests.{Asks}
use Rattle.polis_words.specs.Workers.{NeedsWorkers, workers_of}
use Rattle.polis_words.proofs.AskOptions.{asked_within}
use Rattle.input_files.specs.declared.load.Detail.TheVariants as details
use Rattle.polis_cli.specs.Commands.{meaning}
use Rattle.commands.specs.inner.Lawful.{IsLawful}
use Rattle.commands.specs.JournalProducts.{chart_product, product_of, replay_product, saving_of}
use Rattle.commands.proofs.RunMeaning.{run_lawful}
use Rattle.commands.proofs.NetProducts.{from_net_lawful, on_net_lawful}
use Rattle.commands.proofs.JournalMeaning.{judging_lawful}
use Rattle.commands.proofs.DemoMeaning.{demo_lawful}
use Rattle.commands.proofs.BoundMeaning.{bound_lawful}
use Rattle.commands.proofs.EquivMeaning.{equiv_lawful}
use Rattle.commands.proofs.ExplainMeaning.{explain_lawful}
use Rattle.commands.proofs.ShuffleMeaning.{shuffle_lawful}
use Rattle.commands.proofs.WatchMeaning.{watch_lawful}
use Rattle.polis_cli.proofs.SurveyMeaning.{survey_lawful}

pub lawful : (request : Request) → IsLawful (meaning request)
lawful (Run run) = run_lawful run
lawful (OnNet kind asked) = on_net_lawful details.Cause kind asked
lawful (FromNet kind asked) = from_net_lawful kind asked
lawful (Replay replay) = judging_lawful details.Cause replay replay_product
lawful (OnJournal kind asked) =
    judging_lawful details.Cause asked (λ net journal complete. product_of kind net journal)
lawful (FromJournal kind asked) =
    judging_lawful details.Cause asked.replay (saving_of kind asked.stem)
lawful (Demo demo) = demo_lawful demo
lawful (Bound bound) = bound_lawful bound
lawful (Equiv equiv) = equiv_lawful equiv
lawful (Explain explain) = explain_lawful explain
lawful (Shuffle shuffle) = shuffle_lawful shuffle
lawful (Watch watch) = watch_lawful watch
lawful (Survey survey) = survey_lawful survey
lawful (Chart chart) =
    judging_lawful details.Cause chart.replay (λ net journal complete.
    chart_product chart net journal)

-- what is asked for needs one worker, where the command line needs no more
pub one_worker : (words : List (List ℕ)) (request : Request) → Asks words request
    → (¬ NeedsWorkers words) → workers_of request ≡ 1
one_worker words (Run run) asks few =
    let is = asks.workers in
    let within = asked_within asks.options asks.said asks.asks in
    let some = within.0.0 in
    let none : ¬ (1 < run.workers) = λ more. few (Run run, asks, more) in
    omega (arith, is, some, none)
one_worker words (Survey survey) asks few =
    let is = asks.asks.workers in
    let within = asked_within asks.options asks.asks.said asks.asks.asks in
    let some = within.0.0 in
    let none : ¬ (1 < survey.workers) = λ more. few (Survey survey, asks, more) in
    omega (arith, is, some, none)
one_worker words other asks few = refl
