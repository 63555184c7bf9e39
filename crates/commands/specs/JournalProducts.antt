-- What each command that judges a journal makes of a legal one.
use Rattle.std.specs.Prelude.{ℕ, Bool, List, ◌++◌, length, codes}
use Rattle.transition_table.specs.declared.network.Network.{Network}
use Rattle.journals.specs.declared.entry.Entry.{Entry}
use Rattle.journals.specs.Stamps.{least}
use Rattle.journal_text.specs.Texts.{stamped_journal_text}
use Rattle.event_accounts.specs.Accounts.{accounts_of}
use Rattle.event_accounts.specs.AccountLines.{accounts_text}
use Rattle.table_use.specs.Coverage.{coverages}
use Rattle.table_use.specs.CoverageLines.{coverage_text}
use Rattle.wave_text.specs.Waves.{wave_text}
use Rattle.journal_chart.specs.Chart.{chart_text}
use Rattle.polis_words.specs.declared.requests.command.OnJournal.{OnJournal}
use Rattle.polis_words.specs.declared.requests.command.OnJournal.TheVariants.{Losses, Cover}
use Rattle.polis_words.specs.declared.requests.command.FromJournal.{FromJournal}
use Rattle.polis_words.specs.declared.requests.command.FromJournal.TheVariants.{Migrate, Wave}
use Rattle.polis_words.specs.Chart.{ChartWords}
use Rattle.polis_words.specs.Replay.{ReplayWords}
use Rattle.polis_words.specs.ReplayStem.{ReplayStemWords}
use Rattle.polis_words.specs.Texts.{legal_text, migrated_text, waved_text}
use Rattle.output_files.specs.declared.product.Product.{Product}
use Rattle.output_files.specs.Products.{saves_one, shows_only}
use Rattle.input_files.specs.declared.load.Detail.{Detail}
use Rattle.input_files.specs.declared.load.Detail.TheVariants as details
use Rattle.commands.specs.Meanings.{Meaning}
use Rattle.commands.specs.Judging.{judging_meaning}

-- `replay` shows how long the journal is and whether it is complete
abbrev pub replay_product : Network → List Entry → Bool → Product
replay_product net journal complete = shows_only (legal_text (length journal) complete)

abbrev pub replay_meaning : Detail → ReplayWords → Meaning
replay_meaning detail replay = judging_meaning detail replay replay_product

-- ---- what is shown of a journal
-- the account of each buffer, or what the journal used of each machine's table
abbrev pub text_of : OnJournal → Network → List Entry → List ℕ
text_of Losses net journal = accounts_text net (accounts_of net journal)
text_of Cover net journal = coverage_text net (coverages net journal)

abbrev pub product_of : OnJournal → Network → List Entry → Product
product_of kind net journal = shows_only (text_of kind net journal)

-- it judges the journal as `replay` does
abbrev pub on_journal_meaning : OnJournal → ReplayWords → Meaning
on_journal_meaning kind asked =
    judging_meaning details.Cause asked (λ net journal complete. product_of kind net journal)

-- the chart of the entries that are asked for; it judges the journal likewise
abbrev pub chart_product : ChartWords → Network → List Entry → Product
chart_product asked net journal = shows_only (chart_text net journal asked.from asked.to)

abbrev pub chart_meaning : ChartWords → Meaning
chart_meaning asked =
    judging_meaning details.Cause asked.replay (λ net journal complete.
    chart_product asked net journal)

-- ---- what is saved of a journal
-- the journal with its least stamps, or its wave
abbrev pub saved_of : FromJournal → Network → List Entry → Bool → List ℕ
saved_of Migrate net journal complete =
    stamped_journal_text net journal (least net journal) complete
saved_of Wave net journal complete = wave_text net journal

-- with this after the stem
abbrev pub ending_of : FromJournal → List ℕ
ending_of Migrate = codes ".jnl"
ending_of Wave = codes ".vcd"

-- and so the number of entries is shown
abbrev pub shown_of : FromJournal → ℕ → List ℕ
shown_of Migrate entries = migrated_text entries
shown_of Wave entries = waved_text entries

abbrev pub saving_of : FromJournal → List ℕ → Network → List Entry → Bool → Product
saving_of kind stem net journal complete =
    saves_one (stem ++ ending_of kind) (saved_of kind net journal complete)
    (shown_of kind (length journal))

-- it judges the journal as `replay` does
abbrev pub from_journal_meaning : FromJournal → ReplayStemWords → Meaning
from_journal_meaning kind asked =
    judging_meaning details.Cause asked.replay (saving_of kind asked.stem)
