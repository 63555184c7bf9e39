-- Runs with one more entry.
use Rattle.std.proofs.Common.{◌≡◌, ◌<◌, ◌≤◌, ◌+◌, ◌-◌, ◌⊎◌, ℕ, true, false, nat_lt, List, [], ◌∷◌, ◌++◌, length, refl, sym, ap, subst, ◌∙◌, inl, inr, arith, append_assoc, length-append, ◌↔◌, IsTrue, Bool}
use Rattle.std.proofs.lemmas.Bool.{ltb-true, ltb-false}
use Rattle.transition_table.specs.declared.network.Network.{Network}
use Rattle.journals.specs.declared.entry.Entry.{Entry}
use Rattle.journals.specs.declared.entry.TraceItem.{TraceItem}
use Rattle.journals.specs.declared.entry.Pick.TheVariants.{Stop}
use Rattle.journals.specs.Laws.{FollowsBySteps}
use Rattle.net_core.specs.Moments.{Moment}
use Rattle.journals.specs.Schedules.{pick, IsPicked, Follows, IsSchedule}
use Rattle.scheduler_gen.specs.inner.Runs.{IsNext, GoesOn, Ends}
use Rattle.scheduler_gen.specs.Finishing.{IsFinished}
use Rattle.polis_base.specs.Lists.{Begins}
use Rattle.journals.specs.Legality.{Legal, Complete}

pub goes_further : FollowsBySteps → (old mid new : Moment) (n : ℕ) → GoesOn old mid n
    → IsNext mid new → GoesOn old new (n + 1)
goes_further steps old mid new n before next =
    let journal : new.journal ≡ mid.journal ++ next.0 ∷ [] =
    ap (λ (m : Moment). m.journal) next.1 in
    let longer : length old.journal ≤ length mid.journal =
    rw (before.begins.1, length-append old.journal before.begins.0) (omega arith) in
    let picked : IsPicked old.net mid.journal (pick old.net old.trace mid.journal) next.0 =
    subst (λ (net : Network). IsPicked net mid.journal (pick net old.trace mid.journal) next.0)
    before.net (subst
    (λ (trace : List TraceItem). IsPicked mid.net mid.journal (pick mid.net trace mid.journal)
    next.0) before.trace next.2) in
    let follows = (steps old.net old.trace mid.journal next.0 (length old.journal) longer).1
    (before.follows, picked) in
    record {
      net = ap (λ (m : Moment). m.net) next.1 ∙ before.net;
      trace = ap (λ (m : Moment). m.trace) next.1 ∙ before.trace;
      begins = (
        before.begins.0 ++ next.0 ∷ [],
        journal
            ∙ ap (λ (l : List Entry). l ++ next.0 ∷ []) before.begins.1
            ∙ append_assoc old.journal before.begins.0 (next.0 ∷ []),
      );
      follows = subst (λ (l : List Entry). Follows old.net old.trace l (length old.journal))
          (sym journal) follows;
      within = rw (journal, length-append mid.journal (next.0 ∷ [])) (omega (arith, before.within));
    }

pub longer_by_one : (mid new : Moment) → IsNext mid new
    → length new.journal ≡ length mid.journal + 1
longer_by_one mid new next = ap (λ (m : Moment). length m.journal) next.1
    ∙ length-append mid.journal (next.0 ∷ [])

-- nothing is picked after what was reached
pub stops_here : (old mid new : Moment) (n count : ℕ) → GoesOn old mid n → new ≡ mid
    → pick mid.net mid.trace mid.journal ≡ Stop → Ends old new count
stops_here old mid new n count before same stop =
    let by_net = subst (λ (net : Network). pick net mid.trace mid.journal ≡ Stop) before.net stop in
    let by_trace = subst (λ (trace : List TraceItem). pick old.net trace mid.journal ≡ Stop)
    before.trace by_net in
    inl (subst (λ (m : Moment). pick old.net old.trace m.journal ≡ Stop) (sym same) by_trace)

-- a run from a journal up to a limit
pub ends_at : (net : Network) (trace : List TraceItem) (from journal : List Entry) (limit : ℕ)
    (old new : Moment) → old ≡ record { net = net; trace = trace; journal = from }
    → length from ≤ limit → Ends old new (limit - length from) → journal ≡ new.journal
    → (pick net trace journal ≡ Stop) ⊎ (length journal ≡ limit)
ends_at net trace from journal limit old new start few ends same =
    by_cases (subst (λ (m : Moment). Ends m new (limit - length from)) start ends)
  where
    by_cases : Ends (record { net = net; trace = trace; journal = from }) new (limit - length from)
        → (pick net trace journal ≡ Stop) ⊎ (length journal ≡ limit)
    by_cases (inl stop) = inl (rw same stop)
    by_cases (inr full) = inr (rw same (omega arith))

pub schedule_at : (net : Network) (trace : List TraceItem) (from journal : List Entry) (limit : ℕ)
    (old new : Moment) → old ≡ record { net = net; trace = trace; journal = from } → from ≡ []
    → GoesOn old new (limit - length from) → Ends old new (limit - length from)
    → journal ≡ new.journal → IsSchedule net trace limit journal
schedule_at net trace from journal limit old new start nothing goes ends same = record {
  follows = subst (λ (l : List Entry). Follows net trace journal (length l)) nothing follows;
  whole = whole (ends_at net trace from journal limit old new start few ends same);
}
  where
    few : length from ≤ limit
    few = let e : length from ≡ 0 = ap length nothing in omega arith

    from_start : GoesOn (record { net = net; trace = trace; journal = from }) new
        (limit - length from)
    from_start = subst (λ (m : Moment). GoesOn m new (limit - length from)) start goes

    follows : Follows net trace journal (length from)
    follows = rw same from_start.follows

    within : length journal ≤ limit
    within = rw same (omega (arith, from_start.within, few))

    whole : (pick net trace journal ≡ Stop) ⊎ (length journal ≡ limit)
        → (length journal ≡ limit) ⊎ ((length journal < limit) × (pick net trace journal ≡ Stop))
    whole (inr full) = inl full
    whole (inl stop) =
        elim (nat_lt (length journal) limit) as (λ b. nat_lt (length journal) limit ≡ b
        → (length journal ≡ limit)
        ⊎ ((length journal < limit) × (pick net trace journal ≡ Stop))) [
          | true ↦ λ e. inr (ltb-true (length journal) limit e, stop)
          | false ↦ λ e. let above : limit ≤ length journal = ltb-false (length journal) limit e in
              inl (omega (arith, within))
        ] refl

-- what is reached is what a run that is finished gives
pub finished_at : (start old new : Moment) (limit : ℕ) (journal : List Entry) (complete : Bool)
    → old ≡ start → length start.journal ≤ limit
    → GoesOn old new (limit - length start.journal) → Ends old new (limit - length start.journal)
    → journal ≡ new.journal → Legal new.net new.trace journal
    → IsTrue complete ↔ Complete new.net new.trace new.journal
    → IsFinished start limit journal complete
finished_at start old new limit journal complete is few goes ends same legal whole =
    let on : GoesOn start new (limit - length start.journal) =
    subst (λ (m : Moment). GoesOn m new (limit - length start.journal)) is goes in
    let moved : (P : Network → List TraceItem → List Entry → Type 0)
    → P new.net new.trace new.journal → P start.net start.trace journal =
    λ P h. subst (λ (l : List Entry). P start.net start.trace l) (sym same)
    (subst (λ (trace : List TraceItem). P start.net trace new.journal) on.trace
    (subst (λ (net : Network). P net new.trace new.journal) on.net h)) in
    record {
      begins = subst (λ (l : List Entry). Begins start.journal l) (sym same) on.begins;
      follows = subst
          (λ (l : List Entry). Follows start.net start.trace l (length start.journal))
          (sym same) on.follows;
      legal = moved Legal (subst (λ (l : List Entry). Legal new.net new.trace l) same legal);
      within = rw same (omega (arith, on.within, few));
      ends = ends_at start.net start.trace start.journal journal limit old new is few ends same;
      complete = moved (λ net trace l. IsTrue complete ↔ Complete net trace l) whole;
      schedule = λ nothing.
          schedule_at start.net start.trace start.journal journal limit old new is nothing goes ends
          same;
    }
