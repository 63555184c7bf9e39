-- The commands, and the words with which their command lines begin.
use Rattle.std.specs.Prelude.{ℕ, List, codes}
use Rattle.polis_words.specs.declared.requests.command.Command.{Command}
use Rattle.polis_words.specs.declared.requests.command.Command.TheVariants.{Run, OnNet, FromNet, Replay, OnJournal, FromJournal, Demo, Bound, Equiv, Explain, Shuffle, Watch, Survey, Chart}
use Rattle.polis_words.specs.declared.requests.command.OnNet.TheVariants.{Check, Lint}
use Rattle.polis_words.specs.declared.requests.command.FromNet.TheVariants.{Compile, Image, Draw}
use Rattle.polis_words.specs.declared.requests.command.OnJournal.TheVariants.{Losses, Cover}
use Rattle.polis_words.specs.declared.requests.command.FromJournal.TheVariants.{Migrate, Wave}

-- the table of the commands: each has its word, and a form
abbrev pub word_of : Command → List ℕ
word_of Run = codes "run"
word_of (OnNet Check) = codes "check"
word_of (OnNet Lint) = codes "lint"
word_of (FromNet Compile) = codes "compile"
word_of (FromNet Image) = codes "image"
word_of (FromNet Draw) = codes "draw"
word_of Replay = codes "replay"
word_of (OnJournal Losses) = codes "losses"
word_of (OnJournal Cover) = codes "cover"
word_of (FromJournal Migrate) = codes "migrate"
word_of (FromJournal Wave) = codes "wave"
word_of Demo = codes "demo"
word_of Bound = codes "bound"
word_of Equiv = codes "equiv"
word_of Explain = codes "explain"
word_of Shuffle = codes "shuffle"
word_of Watch = codes "watch"
word_of Survey = codes "survey"
word_of Chart = codes "chart"
