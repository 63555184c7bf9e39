-- Legal and complete journals.
use Rattle.std.specs.Prelude.{◌≡◌, ℕ, ◌<◌, false, List, [], ◌∷◌, ◌++◌, length, IsTrue, ⊤}
use Rattle.polis_base.specs.Lists.{Begins}
use Rattle.transition_table.specs.declared.decl.Party.{Party}
use Rattle.transition_table.specs.declared.network.Network.{Network}
use Rattle.journals.specs.declared.entry.Entry.{Entry}
use Rattle.journals.specs.declared.entry.Entry.TheVariants.{Dep, Rea}
use Rattle.journals.specs.declared.entry.TraceItem.{TraceItem}
use Rattle.journals.specs.Journals.{IsJournal, is_party, is_woken, sent, delivered}
use Rattle.journals.specs.Reactions.{MayReact, MayReactIfReaction}

-- After this journal the entry may come: a delivery that is the next of what its sender has sent to
-- its receiver,
-- or a reaction of a woken machine to the snapshot of this moment by its transition.
abbrev pub MayFollow : Network → List TraceItem → List Entry → Entry → Type 0
MayFollow net trace journal (Dep s m event code) =
    Begins (delivered s m (journal ++ Dep s m event code ∷ [])) (sent net trace s m journal)
MayFollow net trace journal (Rea m s o) = MayReact net journal m s o

-- the same of a reaction; nothing is said of a delivery
abbrev pub MayFollowIfReaction : Network → List TraceItem → List Entry → Entry → Type 0
MayFollowIfReaction net trace journal entry = MayReactIfReaction net journal entry

-- each of these entries may come after the journal and those before it
abbrev pub MayGoOn : Network → List TraceItem → List Entry → List Entry → Type 0
MayGoOn net trace journal [] = ⊤
MayGoOn net trace journal (entry ∷ entries) =
    MayFollow net trace journal entry × MayGoOn net trace (journal ++ entry ∷ []) entries

-- a journal of the network, each entry of which may come after those before it
abbrev pub Legal : Network → List TraceItem → List Entry → Type 0
Legal net trace journal = IsJournal net journal × MayGoOn net trace [] journal

-- all that was sent is delivered, and no machine has a delivery after its last reaction
pub record Complete (net : Network) (trace : List TraceItem) (journal : List Entry) : Type 0 where
  pub all_delivered :
      (s : Party) (m : ℕ) → IsTrue (is_party net s) → m < length net.machines
      → delivered s m journal ≡ sent net trace s m journal
  pub none_woken : (m : ℕ) → m < length net.machines → is_woken journal m ≡ false
