-- What each command means.
use Rattle.polis_words.specs.declared.requests.Request.{Request}
use Rattle.polis_words.specs.declared.requests.Request.TheVariants.{Run, OnNet, FromNet, Replay, OnJournal, FromJournal, Demo, Bound, Equiv, Explain, Shuffle, Watch, Survey, Chart}
use Rattle.input_files.specs.declared.load.Detail.TheVariants as details
use Rattle.commands.specs.Meanings.{Meaning}
use Rattle.commands.specs.Run.{run_meaning}
use Rattle.commands.specs.NetProducts.{from_net_meaning, on_net_meaning}
use Rattle.commands.specs.JournalProducts.{chart_meaning, from_journal_meaning, on_journal_meaning, replay_meaning}
use Rattle.commands.specs.Demo.{demo_meaning}
use Rattle.commands.specs.Bound.{bound_meaning}
use Rattle.commands.specs.Equiv.{equiv_meaning}
use Rattle.commands.specs.Explain.{explain_meaning}
use Rattle.commands.specs.Shuffle.{shuffle_meaning}
use Rattle.commands.specs.Watch.{watch_meaning}
use Rattle.polis_cli.specs.Survey.{survey_meaning}

abbrev pub meaning : Request → Meaning
meaning (Run run) = run_meaning run
meaning (OnNet kind asked) = on_net_meaning details.Cause kind asked
meaning (FromNet kind asked) = from_net_meaning kind asked
meaning (Replay replay) = replay_meaning details.Cause replay
meaning (OnJournal kind asked) = on_journal_meaning kind asked
meaning (FromJournal kind asked) = from_journal_meaning kind asked
meaning (Demo demo) = demo_meaning demo
meaning (Bound bound) = bound_meaning bound
meaning (Equiv equiv) = equiv_meaning equiv
meaning (Explain explain) = explain_meaning explain
meaning (Shuffle shuffle) = shuffle_meaning shuffle
meaning (Watch watch) = watch_meaning watch
meaning (Survey survey) = survey_meaning survey
meaning (Chart chart) = chart_meaning chart
