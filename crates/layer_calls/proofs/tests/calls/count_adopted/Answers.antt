use Rattle.std.proofs.Common.{List, subst, sym}
use Rattle.transition_table.specs.samples.Join.{join}
use Rattle.transition_table.specs.declared.network.Network.{Network}
use Rattle.journals.specs.Alone.{IsAlone}
use Rattle.journals.specs.declared.entry.Entry.{Entry}
use Rattle.journal_replay.proofs.SampleNetworks.{landings_alone}
use Rattle.layer_calls.proofs.tests.calls.count_adopted.Goals as goal

pub adopt-requires-clause-alone : goal.adopt-requires-clause-alone
adopt-requires-clause-alone c = λ m.
    subst (λ (net : Network). IsAlone net m c.in_ok-journal.journal) (sym c.requires.network)
    (subst (λ (journal : List Entry). IsAlone join m journal) (sym c.in_ok-journal.ensures)
    (landings_alone m))
