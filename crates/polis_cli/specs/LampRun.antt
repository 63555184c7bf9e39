-- A call on the lamp and one press: its words, and the files before and after it.
use Rattle.std.specs.Prelude.{ℕ, List, [], ◌∷◌, ◌++◌, None, codes}
use Rattle.std.specs.FinMap.{empty, insert}
use Rattle.polis_base.specs.Lines.{line}
use Rattle.polis_base.specs.declared.limits.TheConstants.{ENTRIES_MAX}
use Rattle.polis_base.specs.Host.{Files}
use Rattle.polis_words.specs.Run.{RunWords}
use Rattle.net_reader.specs.Samples.{lamp_text}
use Rattle.journals.specs.Samples.{lamp, lamp_run}
use Rattle.task_code.specs.Listings.{Part, ListingText}
use Rattle.machine_compiler.specs.Lines.{tries_text}
use Rattle.polis_cli.specs.Samples.{press_text, lamp_journal, lamp_summary}

abbrev pub lamp_words : List (List ℕ)
lamp_words = codes "run" ∷ codes "net" ∷ codes "trc" ∷ codes "o" ∷ []

abbrev pub lamp_asked : RunWords
lamp_asked = record {
  net = codes "net";
  trace = codes "trc";
  stem = codes "o";
  workers = 1;
  limit = ENTRIES_MAX;
  image = None;
}

abbrev pub files_before : Files
files_before = insert (insert empty (codes "net") lamp_text) (codes "trc") press_text

-- what is held after the run, where these are the compiled machines
abbrev pub files_after : List Part → Files
files_after parts =
    insert (insert (insert files_before (codes "o.out") (line (codes "light"))) (codes "o.jnl")
    lamp_journal) (codes "o.lst") (ListingText lamp parts)

-- what is shown of the run, where these are the compiled machines
abbrev pub lamp_shown : List Part → List ℕ
lamp_shown parts = lamp_summary ++ tries_text lamp parts lamp_run
