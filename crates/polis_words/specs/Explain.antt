-- The command lines `explain NET`, `explain NET TRACE` and `explain NET TRACE JOURNAL`.
use Rattle.std.specs.Prelude.{ℕ, List, codes}
use Rattle.polis_words.specs.Check.{AsksNet}
use Rattle.polis_words.specs.NetTrace.{AsksNetTrace}
use Rattle.polis_words.specs.Replay.{AsksReplay}
use Rattle.polis_words.specs.declared.requests.explain.Explain.{Explain}
use Rattle.polis_words.specs.declared.requests.explain.Explain.TheVariants.{Net, Trace, Journal}

-- the command line asks for this explanation: of one file, of two or of three
abbrev pub AsksExplain : List (List ℕ) → Explain → Type 0
AsksExplain words (Net check) = AsksNet (codes "explain") words check
AsksExplain words (Trace asked) = AsksNetTrace (codes "explain") words asked
AsksExplain words (Journal replay) = AsksReplay (codes "explain") words replay
