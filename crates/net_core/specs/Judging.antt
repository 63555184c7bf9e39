-- What the judge of an entry answers.
use Rattle.std.specs.Prelude.{◌≡◌, ◌≢◌, false, List, Option, Some, None, IsTrue, ⊤}
use Rattle.transition_table.specs.Transitions.{OfMachine, Transition}
use Rattle.transition_table.specs.declared.network.Network.{Network}
use Rattle.journals.specs.declared.entry.Entry.{Entry}
use Rattle.journals.specs.declared.entry.Entry.TheVariants.{Dep, Rea}
use Rattle.journals.specs.declared.entry.TraceItem.{TraceItem}
use Rattle.net_core.specs.declared.answer.Why.{Why}
use Rattle.net_core.specs.declared.answer.Why.TheVariants.{NotOwed, NotWoken, Snapshot as OldSnapshot, Outcome as OtherOutcome}
use Rattle.net_core.specs.declared.answer.Admit.{Admit}
use Rattle.net_core.specs.declared.answer.Admit.TheVariants.{Yes, No, NoMemory}
use Rattle.journals.specs.Journals.{is_woken, snap}
use Rattle.journals.specs.Legality.{MayFollow}

-- This is the first cause, in the order of the four, for which the entry may not follow. No two of
-- them hold of one entry.
abbrev pub IsFirstCause : Network → List TraceItem → List Entry → Why → Entry → Type 0
IsFirstCause net trace journal NotOwed (Dep s m event code) =
    ¬ MayFollow net trace journal (Dep s m event code)
IsFirstCause net trace journal NotWoken (Rea m s o) = is_woken journal m ≡ false
IsFirstCause net trace journal OldSnapshot (Rea m s o) =
    IsTrue (is_woken journal m) × (s ≢ snap net journal m)
IsFirstCause net trace journal OtherOutcome (Rea m s o) =
    IsTrue (is_woken journal m) × (s ≡ snap net journal m)
    × (¬ OfMachine net m (λ machine. Transition machine s o))
IsFirstCause net trace journal NotOwed (Rea m s o) = ⊥
IsFirstCause net trace journal NotWoken (Dep s m event code) = ⊥
IsFirstCause net trace journal OldSnapshot (Dep s m event code) = ⊥
IsFirstCause net trace journal OtherOutcome (Dep s m event code) = ⊥

-- this is the cause against the entry, the first that holds of it, or none where it may follow
abbrev pub IsCauseAgainst : Network → List TraceItem → List Entry → Entry → Option Why → Type 0
IsCauseAgainst net trace journal entry None = MayFollow net trace journal entry
IsCauseAgainst net trace journal entry (Some why) = IsFirstCause net trace journal why entry

-- Yes where the entry may follow, No with the first cause where it may not. No two of these hold
-- together, unless memory runs out, which is free.
abbrev pub Judges : Network → List TraceItem → List Entry → Entry → Admit → Type 0
Judges net trace journal entry Yes = MayFollow net trace journal entry
Judges net trace journal entry (No why) = IsFirstCause net trace journal why entry
Judges net trace journal entry NoMemory = ⊤

-- an entry of which a cause holds may not follow
abbrev pub CausedMayNotFollow : Type 0
CausedMayNotFollow =
    (net : Network) (trace : List TraceItem) (journal : List Entry) (why : Why) (entry : Entry)
    → IsFirstCause net trace journal why entry
    → MayFollow net trace journal entry
    → ⊥

-- no two causes hold of one entry
abbrev pub OneCause : Type 0
OneCause =
    (net : Network) (trace : List TraceItem) (journal : List Entry) (why other : Why)
    (entry : Entry)
    → IsFirstCause net trace journal why entry
    → IsFirstCause net trace journal other entry
    → why ≡ other
