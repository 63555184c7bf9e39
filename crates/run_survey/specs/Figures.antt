-- What a survey looks at in one run.
use Rattle.std.specs.Prelude.{ℕ, Bool, List, map, flat_map, Option}
use Rattle.transition_table.specs.declared.network.Network.{Network}
use Rattle.journals.specs.declared.entry.Entry.{Entry}
use Rattle.journal_text.specs.Texts.{output_text}
use Rattle.event_accounts.specs.Accounts.{accounts_of}
use Rattle.event_accounts.specs.declared.account.Account.{Account}
use Rattle.table_use.specs.Coverage.{coverages}
use Rattle.table_use.specs.declared.tally.Tally.{Tally}
use Rattle.table_use.specs.declared.used.InputUse.{InputUse}
use Rattle.table_use.specs.declared.used.MachineUse.{MachineUse}
use Rattle.run_watch.specs.declared.answer.Watched.{Watched}
use Rattle.run_survey.specs.declared.figures.Figures.{Figures}

-- on how many firings of a machine each of its inputs was unused
abbrev pub unused_counts : MachineUse → List ℕ
unused_counts used = map (λ (input : InputUse). input.unused.count) used.inputs

-- by how many firings of a machine each of its rows was taken
abbrev pub taken_counts : MachineUse → List ℕ
taken_counts used = map (λ (row : Tally). row.count) used.rows

-- whether the run is complete, its outputs, what each buffer lost and on how many firings each
-- input was unused, by machine and then by input, how often each machine was jammed, and by how
-- many firings each row was taken, by machine and then by row; and what a monitor says of it
abbrev pub figures_of : Network → List Entry → Bool → Option Watched → Figures
figures_of net journal complete watched =
    record {
      complete = complete;
      outputs = output_text net journal;
      lost = map (λ (account : Account). account.lost) (accounts_of net journal);
      unused = flat_map unused_counts (coverages net journal);
      jammed = map (λ (used : MachineUse). used.jammed.count) (coverages net journal);
      taken = flat_map taken_counts (coverages net journal);
      watched = watched;
    }
