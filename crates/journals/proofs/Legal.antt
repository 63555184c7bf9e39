-- Laws of legal journals.
use Rattle.std.proofs.Common.{List, [], ◌∷◌, ◌++◌, sym, subst, append_assoc}
use Rattle.std.proofs.lemmas.List.{append-nil}
use Rattle.transition_table.specs.declared.network.Network.{Network}
use Rattle.journals.specs.declared.entry.Entry.{Entry}
use Rattle.journals.specs.declared.entry.TraceItem.{TraceItem}
use Rattle.journals.specs.Journals.{FitsNetwork, IsJournal}
use Rattle.journals.specs.Legality.{Legal, MayFollow, MayGoOn}
use Rattle.journals.specs.Laws.{PrefixesAreLegal, GoesOnBySteps}
use Rattle.journals.proofs.Alone.{fitting_prefix}

legal_prefix : (net : Network) (trace : List TraceItem) (before prefix rest : List Entry)
    → MayGoOn net trace before (prefix ++ rest) → MayGoOn net trace before prefix
legal_prefix net trace before [] rest h = tt
legal_prefix net trace before (entry ∷ prefix) rest h =
    (h.0, legal_prefix net trace (before ++ entry ∷ []) prefix rest h.1)

pub prefixes_are_legal : PrefixesAreLegal
prefixes_are_legal net trace prefix rest h =
    (fitting_prefix net prefix rest h.0, legal_prefix net trace [] prefix rest h.1)

fitting_last : (net : Network) (journal : List Entry) (entry : Entry)
    → IsJournal net (journal ++ entry ∷ []) → FitsNetwork net entry
fitting_last net [] entry h = h.0
fitting_last net (first ∷ journal) entry h = fitting_last net journal entry h.1

pub fitting_more : (net : Network) (journal : List Entry) (entry : Entry) → IsJournal net journal
    → FitsNetwork net entry → IsJournal net (journal ++ entry ∷ [])
fitting_more net [] entry h f = (f, tt)
fitting_more net (first ∷ journal) entry h f = (h.0, fitting_more net journal entry h.1 f)

legal_last : (net : Network) (trace : List TraceItem) (before journal : List Entry) (entry : Entry)
    → MayGoOn net trace before (journal ++ entry ∷ [])
    → MayFollow net trace (before ++ journal) entry
legal_last net trace before [] entry h =
    subst (λ j. MayFollow net trace j entry) (sym (append-nil before)) h.0
legal_last net trace before (first ∷ journal) entry h =
    subst (λ j. MayFollow net trace j entry) (append_assoc before (first ∷ []) journal)
    (legal_last net trace (before ++ first ∷ []) journal entry h.1)

legal_more : (net : Network) (trace : List TraceItem) (before journal : List Entry) (entry : Entry)
    → MayGoOn net trace before journal → MayFollow net trace (before ++ journal) entry
    → MayGoOn net trace before (journal ++ entry ∷ [])
legal_more net trace before [] entry h f =
    (subst (λ j. MayFollow net trace j entry) (append-nil before) f, tt)
legal_more net trace before (first ∷ journal) entry h f = (
  h.0,
  legal_more net trace (before ++ first ∷ []) journal entry h.1
      (subst (λ j. MayFollow net trace j entry) (sym (append_assoc before (first ∷ []) journal)) f),
)

pub goes_on_by_steps : GoesOnBySteps
goes_on_by_steps net trace journal entry = (
  (λ h. (
    prefixes_are_legal net trace journal
        (entry ∷ []) h,
    fitting_last net journal entry h.0,
    legal_last net trace [] journal entry h.1,
  )),
  (λ h. (
    fitting_more net journal entry (h.0).0 h.1,
    legal_more net trace [] journal entry
        (h.0).1 h.2,
  )),
)

pub legal_step : (net : Network) (trace : List TraceItem) (journal : List Entry) (entry : Entry)
    → Legal net trace journal → FitsNetwork net entry → MayFollow net trace journal entry
    → Legal net trace (journal ++ entry ∷ [])
legal_step net trace journal entry h f g = (goes_on_by_steps net trace journal entry).1 (h, f, g)
