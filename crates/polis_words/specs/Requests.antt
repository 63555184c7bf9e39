-- What a command line asks for.
use Rattle.std.specs.Prelude.{ℕ, List, codes}
use Rattle.polis_words.specs.declared.requests.Request.{Request}
use Rattle.polis_words.specs.declared.requests.Request.TheVariants.{Run, OnNet, FromNet, Replay, OnJournal, FromJournal, Demo, Bound, Equiv, Explain, Shuffle, Watch, Survey, Chart}
use Rattle.polis_words.specs.declared.requests.command.Command.TheVariants as commands
use Rattle.polis_words.specs.Commands.{word_of}
use Rattle.polis_words.specs.Run.{AsksRun}
use Rattle.polis_words.specs.Chart.{AsksChart}
use Rattle.polis_words.specs.Check.{AsksNet}
use Rattle.polis_words.specs.NetStem.{AsksNetStem}
use Rattle.polis_words.specs.Replay.{AsksReplay}
use Rattle.polis_words.specs.ReplayStem.{AsksReplayStem}
use Rattle.polis_words.specs.Demo.{AsksDemo}
use Rattle.polis_words.specs.Bound.{AsksBound}
use Rattle.polis_words.specs.Equiv.{AsksEquiv}
use Rattle.polis_words.specs.Explain.{AsksExplain}
use Rattle.polis_words.specs.Shuffle.{AsksShuffle}
use Rattle.polis_words.specs.Survey.{AsksSurvey}
use Rattle.polis_words.specs.Watch.{AsksWatch}

-- the command line has the form of this request
abbrev pub Asks : List (List ℕ) → Request → Type 0
Asks words (Run run) = AsksRun words run
Asks words (OnNet kind asked) = AsksNet (word_of (commands.OnNet kind)) words asked
Asks words (FromNet kind asked) = AsksNetStem (word_of (commands.FromNet kind)) words asked
Asks words (Replay replay) = AsksReplay (codes "replay") words replay
Asks words (OnJournal kind asked) = AsksReplay (word_of (commands.OnJournal kind)) words asked
Asks words (FromJournal kind asked) =
    AsksReplayStem (word_of (commands.FromJournal kind)) words asked
Asks words (Demo demo) = AsksDemo words demo
Asks words (Bound bound) = AsksBound words bound
Asks words (Equiv equiv) = AsksEquiv words equiv
Asks words (Explain explain) = AsksExplain words explain
Asks words (Shuffle shuffle) = AsksShuffle words shuffle
Asks words (Watch watch) = AsksWatch words watch
Asks words (Survey survey) = AsksSurvey words survey
Asks words (Chart chart) = AsksChart words chart

-- the command line has no request's form
abbrev pub AsksNothing : List (List ℕ) → Type 0
AsksNothing words = (request : Request) → ¬ Asks words request
