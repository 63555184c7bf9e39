-- The reaction that the rows give is a transition, and the schedules that it makes.
use Rattle.std.specs.Prelude.{◌≡◌, ◌⊎◌, ℕ, zero, suc, ◌<◌, Bool, true, false, List, [], ◌∷◌, ◌++◌, length, slice_get, Option, Some, None, option_map, unwrap_or, IsSomeAnd}
use Rattle.std.proofs.Common.{refl, sym, subst, inl, inr, arith, append_assoc, length-append}
use Rattle.std.proofs.lemmas.List.{append-nil, length_push}
use Rattle.std.proofs.lemmas.Bool.{cases_lt}
use Rattle.std.proofs.lemmas.Option.{none-some}
use Rattle.polis_base.specs.Lists.{head_of}
use Rattle.transition_table.specs.Laws.{OutcomeByRows, TransitionFits}
use Rattle.transition_table.specs.Transitions.{Transition}
use Rattle.transition_table.specs.declared.machine.Machine.{Machine}
use Rattle.transition_table.specs.declared.network.Network.{Network}
use Rattle.transition_table.specs.declared.snapshot.Snapshot.{Snapshot}
use Rattle.journals.specs.declared.entry.Entry.{Entry}
use Rattle.journals.specs.declared.entry.Entry.TheVariants.{Dep}
use Rattle.journals.specs.declared.entry.Owed.{Owed}
use Rattle.journals.specs.declared.entry.Pick.TheVariants.{Stop}
use Rattle.journals.specs.declared.entry.TraceItem.{TraceItem}
use Rattle.journals.specs.Journals.{IsTrace, snap}
use Rattle.journals.specs.Laws.{GivesTransition, ReactionFits, GoesOnByPicks, ScheduleOfLength}
use Rattle.journals.specs.Legality.{Legal}
use Rattle.journals.specs.Reactions.{outcome_on, outcome_in, reaction}
use Rattle.journals.specs.Schedules.{Follows, IsPicked, IsSchedule, first_pick, first_woken, owed_by_env, owed_by_machines, pick}
use Rattle.journals.proofs.FitsNetwork.{picked_fits}
use Rattle.journals.proofs.Follows.{follows_at_end, follows_more}
use Rattle.journals.proofs.SnapFits.{reaction_fits as reaction_by}
use Rattle.journals.proofs.StopsWhereComplete.{first_woken_is, picked_is_legal}

pub gives_transition : OutcomeByRows → GivesTransition
gives_transition by_rows m s = by_rows m s.codes

pub none_within : (xs : List Machine) (k : ℕ) → k < length xs → slice_get xs k ≡ None → ⊥
none_within [] k h e = omega arith
none_within (x ∷ xs) zero h e = none-some x (sym e)
none_within (x ∷ xs) (suc k) h e = none_within xs k (omega arith) e

pub made : GivesTransition → (net : Network) (m : ℕ) (s : Snapshot) (found : Option Machine)
    → slice_get net.machines m ≡ found → m < length net.machines
    → IsSomeAnd found
    (λ machine.
    Transition machine s
    (unwrap_or (option_map (λ machine. outcome_on machine s) found)
    (record { fires = false; next = []; outs = [] })))
made gives net m s None is below = absurd (elim (cases_lt m (length net.machines)) [
  | inl inside ↦ none_within net.machines m inside is
  | inr past ↦ omega arith
])
made gives net m s (Some machine) is below = gives machine s

pub reaction_fits : GivesTransition → TransitionFits → ReactionFits
reaction_fits gives outcome_fits net m journal fits below =
    reaction_by outcome_fits net journal m (outcome_in net m (snap net journal m)) fits
    (made gives net m (snap net journal m) (slice_get net.machines m) refl below)

-- ---- there is always an entry that is picked, but where the scheduler stops

picked_or_stop : GivesTransition
    → (net : Network) (journal : List Entry) (a : Option Owed) (b : Option (Owed × Bool))
    (c : Option ℕ) → ((m : ℕ) → c ≡ Some m → m < length net.machines)
    → (first_pick a b c ≡ Stop) ⊎ ((entry : Entry) × IsPicked net journal (first_pick a b c) entry)
picked_or_stop gives net journal (Some d) b c h = inr (Dep d.from d.to d.event d.code, refl)
picked_or_stop gives net journal None (Some (d, false)) c h =
    inr (Dep d.from d.to d.event d.code, refl)
picked_or_stop gives net journal None (Some (d, true)) (Some m) h =
    inr (
      reaction net m journal,
      (
        outcome_in net m (snap net journal m),
        refl,
        made gives net m (snap net journal m)
            (slice_get net.machines m) refl (h m refl),
      ),
    )
picked_or_stop gives net journal None None (Some m) h =
    inr (
      reaction net m journal,
      (
        outcome_in net m (snap net journal m),
        refl,
        made gives net m (snap net journal m)
            (slice_get net.machines m) refl (h m refl),
      ),
    )
picked_or_stop gives net journal None (Some (d, true)) None h =
    inr (Dep d.from d.to d.event d.code, refl)
picked_or_stop gives net journal None None None h = inl refl

picks : GivesTransition → (net : Network) (trace : List TraceItem) (journal : List Entry)
    → (pick net trace journal ≡ Stop)
    ⊎ ((entry : Entry) × IsPicked net journal (pick net trace journal) entry)
picks gives net trace journal =
    picked_or_stop gives net journal (head_of (owed_by_machines net journal))
    (head_of (owed_by_env net trace journal)) (first_woken net journal)
    (λ m is. (first_woken_is net journal m is).1)

-- ---- a legal journal can be carried on

abbrev GoneOn : Network → List TraceItem → List Entry → ℕ → Type 0
GoneOn net trace journal n =
    (more : List Entry) × Legal net trace (journal ++ more)
    × Follows net trace (journal ++ more) (length journal)
    × ((length more ≡ n) ⊎ ((length more < n) × (pick net trace (journal ++ more) ≡ Stop)))

one_on : TransitionFits
    → (net : Network) (trace : List TraceItem) (journal more : List Entry) (n : ℕ)
    → IsTrace net trace → Legal net trace (journal ++ more)
    → Follows net trace (journal ++ more) (length journal)
    → length more ≡ n
    → (pick net trace (journal ++ more) ≡ Stop)
    ⊎ ((entry : Entry) × IsPicked net (journal ++ more) (pick net trace (journal ++ more)) entry)
    → GoneOn net trace journal (suc n)
one_on outcome_fits net trace journal more n fits legal follows long (inl stops) =
    (more, legal, follows, inr (omega arith, stops))
one_on outcome_fits net trace journal more n fits legal follows long (inr (entry, is)) =
    let size = length-append journal more in
    let long_more = length_push more entry in
    let legal_more =
    picked_is_legal net trace (journal ++ more) entry legal is
    (picked_fits outcome_fits net trace (journal ++ more) entry fits legal.0 is) in
    let follows_on =
    follows_more net trace (journal ++ more) (length journal) entry follows (omega arith) is in
    let same = append_assoc journal more (entry ∷ []) in (
      more ++ entry ∷ [],
      subst (Legal net trace) same legal_more,
      subst (λ (l : List Entry). Follows net trace l (length journal)) same follows_on,
      inl (omega arith),
    )

gone_on : GivesTransition → TransitionFits
    → (net : Network) (trace : List TraceItem) (journal : List Entry) (n : ℕ)
    → IsTrace net trace → Legal net trace journal → GoneOn net trace journal n
gone_on gives outcome_fits net trace journal zero fits legal = (
  [],
  subst (Legal net trace) (sym (append-nil journal)) legal,
  subst (λ (l : List Entry). Follows net trace l (length journal)) (sym (append-nil journal))
      (follows_at_end net trace journal),
  inl refl,
)
gone_on gives outcome_fits net trace journal (suc n) fits legal =
    step (gone_on gives outcome_fits net trace journal n fits legal)
  where
    step : GoneOn net trace journal n → GoneOn net trace journal (suc n)
    step (more, long, follows, inl whole) =
        one_on outcome_fits net trace journal more n fits long follows whole
        (picks gives net trace (journal ++ more))
    step (more, long, follows, inr (fewer, stops)) = (more, long, follows, inr (omega arith, stops))

pub goes_on_by_picks : GivesTransition → TransitionFits → GoesOnByPicks
goes_on_by_picks gives outcome_fits net trace journal n fits legal =
    gone_on gives outcome_fits net trace journal n fits legal

pub schedule_of_length : GivesTransition → TransitionFits → ScheduleOfLength
schedule_of_length gives outcome_fits net trace n fits =
    made_whole (gone_on gives outcome_fits net trace [] n fits (tt, tt))
  where
    made_whole : GoneOn net trace [] n
        → (journal : List Entry) × IsSchedule net trace n journal × Legal net trace journal
    made_whole (more, legal, follows, whole) =
        (more, record { follows = follows; whole = whole }, legal)
