-- The command line `watch NET TRACE JOURNAL MONITOR`.
use Rattle.std.specs.Prelude.{ℕ, List, codes}
use Rattle.polis_words.specs.Replay.{ReplayWords}
use Rattle.polis_words.specs.ReplayStem.{ReplayStemWords, AsksReplayStem}

-- what a watch is asked for: the replay that judges the journal, and the name of the monitor
pub record WatchWords : Type 0 where
  pub replay : ReplayWords
  pub monitor : List ℕ

-- the words after the first one, by what `migrate` names at their places
abbrev pub named_by : WatchWords → ReplayStemWords
named_by watch = record { replay = watch.replay; stem = watch.monitor }

-- the command line asks for this watch: it has the form of `migrate`, with MONITOR for STEM
abbrev pub AsksWatch : List (List ℕ) → WatchWords → Type 0
AsksWatch words watch = AsksReplayStem (codes "watch") words (named_by watch)
