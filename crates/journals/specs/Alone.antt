-- What is legal by itself.
use Rattle.std.specs.Prelude.{ℕ, ◌<◌, ◌≤◌, Bool, ◌&&◌, ◌==◌, List, [], ◌∷◌, ◌++◌, filter, IsTrue, ⊤}
use Rattle.std.specs.List.{list_all}
use Rattle.transition_table.specs.declared.network.Network.{Network}
use Rattle.journals.specs.declared.entry.Entry.{Entry}
use Rattle.journals.specs.declared.entry.Entry.TheVariants.{Dep, Rea}
use Rattle.journals.specs.declared.stamped.Stamped.{Stamped}
use Rattle.journals.specs.Journals.{FitsNetwork, IsJournal, reads}
use Rattle.journals.specs.Reactions.{MayReactIfReaction}
use Rattle.journals.specs.Logs.{clock, entries, max_stamp, rises, of_machine}

-- a delivery to m of an event that it reads, or a reaction of m
abbrev pub is_own : Network → ℕ → Entry → Bool
is_own net m (Dep s to event code) = to == m && reads net m event
is_own net m (Rea k s o) = k == m

-- each reaction among these entries may come after those before it
abbrev pub ReactsAfter : Network → List Entry → List Entry → Type 0
ReactsAfter net before [] = ⊤
ReactsAfter net before (entry ∷ entries) =
    MayReactIfReaction net before entry × ReactsAfter net (before ++ entry ∷ []) entries

-- the log of m is legal by itself; it says nothing of senders
pub record LegalAlone (net : Network) (m : ℕ) (log : List Stamped) : Type 0 where
  pub rising : IsTrue (rises 0 log)
  pub fitting : IsJournal net (entries log)
  pub own : IsTrue (list_all (λ x. is_own net m x.entry) log)
  pub reacting : ReactsAfter net [] (entries log)

-- the entry with its stamp may come after those of the log, by itself
pub record MayAppend (net : Network) (m : ℕ) (log : List Stamped) (next : Stamped) : Type 0 where
  pub rises : clock log < next.stamp
  pub small : next.stamp ≤ max_stamp
  pub fits : FitsNetwork net next.entry
  pub own : IsTrue (is_own net m next.entry)
  pub reacts : MayReactIfReaction net (entries log) next.entry

-- the journal is legal by itself for m: the list of its deliveries to m and reactions of m is, but
-- for stamps
pub record IsAlone (net : Network) (m : ℕ) (journal : List Entry) : Type 0 where
  pub fitting : IsJournal net (filter (of_machine m) journal)
  pub own : IsTrue (list_all (is_own net m) (filter (of_machine m) journal))
  pub reacting : ReactsAfter net [] (filter (of_machine m) journal)
