-- The causes for which an entry may not follow exclude each other, and that it follows.
use Rattle.std.specs.Prelude.{◌≡◌, List}
use Rattle.std.proofs.Common.{refl}
use Rattle.std.proofs.lemmas.Bool.{both_ways}
use Rattle.transition_table.specs.declared.network.Network.{Network}
use Rattle.journals.specs.declared.entry.Entry.{Entry}
use Rattle.journals.specs.declared.entry.Entry.TheVariants.{Dep, Rea}
use Rattle.journals.specs.declared.entry.TraceItem.{TraceItem}
use Rattle.net_core.specs.declared.answer.Why.{Why}
use Rattle.net_core.specs.declared.answer.Why.TheVariants.{NotOwed, NotWoken, Snapshot as OldSnapshot, Outcome as OtherOutcome}
use Rattle.journals.specs.Journals.{is_woken}
use Rattle.net_core.specs.Judging.{IsFirstCause}
use Rattle.journals.specs.Legality.{MayFollow}

pub caused_may_not_follow : (net : Network) (trace : List TraceItem) (journal : List Entry)
    (why : Why) (entry : Entry) → IsFirstCause net trace journal why entry
    → MayFollow net trace journal entry → ⊥
caused_may_not_follow net trace journal NotOwed (Dep s m event code) cause follows = cause follows
caused_may_not_follow net trace journal NotOwed (Rea m s o) cause follows = cause
caused_may_not_follow net trace journal NotWoken (Dep s m event code) cause follows = cause
caused_may_not_follow net trace journal NotWoken (Rea m s o) cause follows =
    both_ways (is_woken journal m) cause follows.0
caused_may_not_follow net trace journal OldSnapshot (Dep s m event code) cause follows = cause
caused_may_not_follow net trace journal OldSnapshot (Rea m s o) cause follows = cause.1 follows.1
caused_may_not_follow net trace journal OtherOutcome (Dep s m event code) cause follows = cause
caused_may_not_follow net trace journal OtherOutcome (Rea m s o) cause follows = cause.2 follows.2

pub one_cause : (net : Network) (trace : List TraceItem) (journal : List Entry) (why other : Why)
    (entry : Entry) → IsFirstCause net trace journal why entry
    → IsFirstCause net trace journal other entry → why ≡ other
one_cause net trace journal NotOwed NotOwed entry a b = refl
one_cause net trace journal NotWoken NotWoken entry a b = refl
one_cause net trace journal OldSnapshot OldSnapshot entry a b = refl
one_cause net trace journal OtherOutcome OtherOutcome entry a b = refl
one_cause net trace journal NotOwed other (Rea m s o) a b = absurd a
one_cause net trace journal NotWoken other (Dep s m event code) a b = absurd a
one_cause net trace journal OldSnapshot other (Dep s m event code) a b = absurd a
one_cause net trace journal OtherOutcome other (Dep s m event code) a b = absurd a
one_cause net trace journal why NotOwed (Rea m s o) a b = absurd b
one_cause net trace journal why NotWoken (Dep s m event code) a b = absurd b
one_cause net trace journal why OldSnapshot (Dep s m event code) a b = absurd b
one_cause net trace journal why OtherOutcome (Dep s m event code) a b = absurd b
one_cause net trace journal NotWoken OldSnapshot (Rea m s o) a b =
    absurd (both_ways (is_woken journal m) a b.0)
one_cause net trace journal NotWoken OtherOutcome (Rea m s o) a b =
    absurd (both_ways (is_woken journal m) a b.0)
one_cause net trace journal OldSnapshot NotWoken (Rea m s o) a b =
    absurd (both_ways (is_woken journal m) b a.0)
one_cause net trace journal OtherOutcome NotWoken (Rea m s o) a b =
    absurd (both_ways (is_woken journal m) b a.0)
one_cause net trace journal OldSnapshot OtherOutcome (Rea m s o) a b = absurd (a.1 b.1)
one_cause net trace journal OtherOutcome OldSnapshot (Rea m s o) a b = absurd (b.1 a.1)
