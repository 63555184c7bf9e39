-- What the definitions say of a run, of an entry that may not follow a journal, and of stamps.
use Rattle.std.specs.Prelude.{◌≡◌, ℕ, true, false, List, Option}
use Rattle.transition_table.specs.Transitions.{OfMachine, Transition}
use Rattle.transition_table.specs.declared.decl.Party.{Party}
use Rattle.transition_table.specs.declared.network.Network.{Network}
use Rattle.transition_table.specs.declared.snapshot.Outcome.{Outcome}
use Rattle.transition_table.specs.declared.snapshot.Snapshot.{Snapshot}
use Rattle.journals.specs.declared.entry.Entry.{Entry}
use Rattle.journals.specs.declared.entry.Entry.TheVariants.{Dep, Rea}
use Rattle.journals.specs.declared.entry.TraceItem.{TraceItem}
use Rattle.journals.specs.declared.entry.Pick.TheVariants.{Stop}
use Rattle.journals.specs.Journals.{FitsNetwork, is_woken, next_of, snap}
use Rattle.journals.specs.Legality.{Legal, Complete, MayFollow}
use Rattle.journals.specs.Outputs.{outputs, lost}
use Rattle.journals.specs.Schedules.{Follows, pick}
use Rattle.journals.specs.Stamps.{Rising, least}

-- the scheduler's whole run on the trace, with these outputs and so many losses
pub record IsRun (net : Network) (trace : List TraceItem) (journal : List Entry)
    (outs : List (ℕ × ℕ)) (losses : ℕ) : Type 0 where
  pub legal : Legal net trace journal
  pub complete : Complete net trace journal
  pub follows : Follows net trace journal 0
  pub stops : pick net trace journal ≡ Stop
  pub gives : outputs net journal ≡ outs
  pub loses : lost net journal ≡ losses

-- the entry fits the network and may not follow the journal, which is legal
pub record IsRefused (net : Network) (trace : List TraceItem) (journal : List Entry)
    (entry : Entry) : Type 0 where
  pub legal : Legal net trace journal
  pub fits : FitsNetwork net entry
  pub refused : MayFollow net trace journal entry → ⊥

-- this delivery from s to m is refused, since s is to deliver something else to m, or nothing
pub record IsNotNext (net : Network) (trace : List TraceItem) (journal : List Entry) (s : Party)
    (m e c : ℕ) (next : Option (ℕ × ℕ)) : Type 0 where
  pub refused : IsRefused net trace journal (Dep s m e c)
  pub next_is : next_of net trace journal s m ≡ next

-- this reaction is refused, since the machine isn't woken, though its snapshot is the one of this
-- moment and its outcome the transition's
pub record IsAsleep (net : Network) (trace : List TraceItem) (journal : List Entry) (m : ℕ)
    (s : Snapshot) (o : Outcome) : Type 0 where
  pub refused : IsRefused net trace journal (Rea m s o)
  pub asleep : is_woken journal m ≡ false
  pub snapshot_is : snap net journal m ≡ s
  pub outcome_is : OfMachine net m (λ machine. Transition machine s o)

-- this reaction of a woken machine is refused, since its snapshot is another, though its outcome is
-- the transition's
pub record HasOtherSnapshot (net : Network) (trace : List TraceItem) (journal : List Entry) (m : ℕ)
    (s : Snapshot) (o : Outcome) (right : Snapshot) : Type 0 where
  pub refused : IsRefused net trace journal (Rea m s o)
  pub woken : is_woken journal m ≡ true
  pub snapshot_is : snap net journal m ≡ right
  pub outcome_is : OfMachine net m (λ machine. Transition machine s o)

-- this reaction of a woken machine to its snapshot is refused, since its outcome is another
pub record HasOtherOutcome (net : Network) (trace : List TraceItem) (journal : List Entry) (m : ℕ)
    (s : Snapshot) (o right : Outcome) : Type 0 where
  pub refused : IsRefused net trace journal (Rea m s o)
  pub woken : is_woken journal m ≡ true
  pub snapshot_is : snap net journal m ≡ s
  pub outcome_is : OfMachine net m (λ machine. Transition machine s right)

-- the journal's least stamps, which are Rising, are these
pub record HasLeast (net : Network) (journal : List Entry) (ts : List ℕ) : Type 0 where
  pub least_are : least net journal ≡ ts
  pub rising : Rising net journal ts
