-- A journal whose legal prefix is all of it.
use Rattle.std.specs.Prelude.{◌↔◌, ◌≤◌, ℕ, Bool, List, Option, length, IsTrue}
use Rattle.std.proofs.Common.{subst}
use Rattle.std.proofs.lemmas.List.{take_all}
use Rattle.transition_table.specs.declared.network.Network.{Network}
use Rattle.journals.specs.declared.entry.Entry.{Entry}
use Rattle.journals.specs.declared.entry.TraceItem.{TraceItem}
use Rattle.journals.specs.Legality.{Complete, Legal}
use Rattle.net_core.specs.Prefixes.{IsLegalPrefix}
use Rattle.net_core.specs.declared.answer.Why.{Why}

pub whole_is_legal :
    (net : Network) (trace : List TraceItem) (journal : List Entry) (k : ℕ) (complete : Bool)
    (why : Option Why)
    → IsLegalPrefix net trace journal k complete why → length journal ≤ k
    → Legal net trace journal × (IsTrue complete ↔ Complete net trace journal)
whole_is_legal net trace journal k complete why legal all =
    let same = take_all k journal all in (
      subst (Legal net trace) same legal.up_to.legal,
      subst (λ (l : List Entry). IsTrue complete ↔ Complete net trace l) same legal.completes,
    )
