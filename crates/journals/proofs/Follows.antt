-- One entry more that was picked, and the one journal that is picked.
use Rattle.std.specs.Prelude.{◌≡◌, ◌⊎◌, ℕ, ◌+◌, ◌<◌, ◌≤◌, List, [], ◌∷◌, ◌++◌, length, take, drop, slice_get, Option, Some, None, IsSomeAnd}
use Rattle.std.proofs.Common.{refl, sym, ap, ◌∙◌, subst, inl, inr, append_assoc, length-append, arith}
use Rattle.std.proofs.lemmas.List.{append-nil, take-append-le, drop-append-le, take-append-drop, drop_all, nil_from_length}
use Rattle.std.proofs.lemmas.Bool.{cases_lt}
use Rattle.polis_base.specs.Lists.{Begins}
use Rattle.transition_table.specs.Laws.{OneOutcome, TransitionFits}
use Rattle.transition_table.specs.Transitions.{Transition, AreDeterministic}
use Rattle.transition_table.specs.declared.machine.Machine.{Machine}
use Rattle.transition_table.specs.declared.network.Network.{Network}
use Rattle.journals.specs.declared.entry.Entry.{Entry}
use Rattle.journals.specs.declared.entry.Entry.TheVariants.{Rea}
use Rattle.journals.specs.declared.entry.Pick.{Pick}
use Rattle.journals.specs.declared.entry.Pick.TheVariants.{Deliver, React, Stop}
use Rattle.journals.specs.declared.entry.TraceItem.{TraceItem}
use Rattle.journals.specs.Journals.{IsJournal, IsTrace, snap}
use Rattle.journals.specs.Legality.{Legal}
use Rattle.journals.specs.Laws.{FollowsBySteps, FollowingIsLegal, OneSchedule}
use Rattle.journals.specs.Schedules.{pick, IsPicked, FollowsAfter, Follows, IsSchedule}
use Rattle.journals.proofs.FitsNetwork.{picked_fits}
use Rattle.journals.proofs.SnapFits.{snap_fits}
use Rattle.journals.proofs.StopsWhereComplete.{picked_is_legal}

pub follows_after_more : (net : Network) (trace : List TraceItem) (prefix entries : List Entry)
    (entry : Entry) → FollowsAfter net trace prefix entries
    → IsPicked net (prefix ++ entries) (pick net trace (prefix ++ entries)) entry
    → FollowsAfter net trace prefix (entries ++ entry ∷ [])
follows_after_more net trace prefix [] entry h is =
    (subst (λ j. IsPicked net j (pick net trace j) entry) (append-nil prefix) is, tt)
follows_after_more net trace prefix (first ∷ entries) entry h is = (
  h.0,
  follows_after_more net trace (prefix ++ first ∷ []) entries entry h.1
      (subst (λ j. IsPicked net j (pick net trace j) entry)
      (sym (append_assoc prefix (first ∷ []) entries)) is),
)

pub follows_after_last : (net : Network) (trace : List TraceItem) (prefix entries : List Entry)
    (entry : Entry) → FollowsAfter net trace prefix (entries ++ entry ∷ [])
    → FollowsAfter net trace prefix entries
    × IsPicked net (prefix ++ entries) (pick net trace (prefix ++ entries)) entry
follows_after_last net trace prefix [] entry h =
    (tt, subst (λ j. IsPicked net j (pick net trace j) entry) (sym (append-nil prefix)) h.0)
follows_after_last net trace prefix (first ∷ entries) entry h =
    let rest = follows_after_last net trace (prefix ++ first ∷ []) entries entry h.1 in (
      (h.0, rest.0),
      subst (λ j. IsPicked net j (pick net trace j) entry)
          (append_assoc prefix (first ∷ []) entries) rest.1,
    )

pub follows_more : (net : Network) (trace : List TraceItem) (journal : List Entry) (a : ℕ)
    (entry : Entry) → Follows net trace journal a → a ≤ length journal
    → IsPicked net journal (pick net trace journal) entry
    → Follows net trace (journal ++ entry ∷ []) a
follows_more net trace journal a entry h within is =
    rw (take-append-le a journal (entry ∷ []) within, drop-append-le a journal (entry ∷ []) within)
    (follows_after_more net trace (take a journal) (drop a journal) entry h
    (subst (λ j. IsPicked net j (pick net trace j) entry) (sym (take-append-drop a journal)) is))

-- from a journal's end on nothing has to be picked
pub follows_at_end : (net : Network) (trace : List TraceItem) (journal : List Entry)
    → Follows net trace journal (length journal)
follows_at_end net trace journal =
    subst (FollowsAfter net trace (take (length journal) journal))
    (sym (drop_all (length journal) journal (omega arith))) tt

follows_last : (net : Network) (trace : List TraceItem) (journal : List Entry) (a : ℕ)
    (entry : Entry) → a ≤ length journal → Follows net trace (journal ++ entry ∷ []) a
    → Follows net trace journal a × IsPicked net journal (pick net trace journal) entry
follows_last net trace journal a entry within h =
    let g =
    rw (take-append-le a journal (entry ∷ []) within, drop-append-le a journal (entry ∷ []) within)
    at h in
    let parts = follows_after_last net trace (take a journal) (drop a journal) entry g in (
      parts.0,
      subst (λ j. IsPicked net j (pick net trace j) entry)
          (take-append-drop a journal) parts.1,
    )

pub follows_by_steps : FollowsBySteps
follows_by_steps net trace journal entry a within = (
  follows_last net trace journal a entry within,
  (λ h. follows_more net trace journal a entry h.0 within h.1),
)

-- ---- what follows is legal, and one

-- after a legal journal, entries that are picked make a legal journal
pub following_is_legal : TransitionFits
    → (net : Network) (trace : List TraceItem) (prefix entries : List Entry) → IsTrace net trace
    → Legal net trace prefix → FollowsAfter net trace prefix entries
    → Legal net trace (prefix ++ entries)
following_is_legal fits net trace prefix [] t h g =
    subst (Legal net trace) (sym (append-nil prefix)) h
following_is_legal fits net trace prefix (entry ∷ entries) t h g =
    subst (Legal net trace) (append_assoc prefix (entry ∷ []) entries)
    (following_is_legal fits net trace (prefix ++ entry ∷ []) entries t
    (picked_is_legal net trace prefix entry h g.0
    (picked_fits fits net trace prefix entry t h.0 g.0)) g.1)

pub follows_is_legal : TransitionFits → FollowingIsLegal
follows_is_legal fits net trace journal a t h g =
    subst (Legal net trace) (take-append-drop a journal)
    (following_is_legal fits net trace (take a journal) (drop a journal) t h g)

-- a deterministic network has one entry at most that is picked
pub one_picked : OneOutcome → (net : Network) (journal : List Entry) (p : Pick) (x y : Entry)
    → AreDeterministic net → IsJournal net journal → IsPicked net journal p x
    → IsPicked net journal p y → x ≡ y
one_picked one net journal (Deliver s m e c) x y d h f g = f ∙ sym g
one_picked one net journal (React m) x y d h (o, f, may) (q, g, might) =
    elim
    (slice_get net.machines m) as (λ (found : Option Machine). slice_get net.machines m ≡ found
    → IsSomeAnd found (λ machine. Transition machine (snap net journal m) o)
    → IsSomeAnd found (λ machine. Transition machine (snap net journal m) q) → x ≡ y) [
      | None ↦ λ is none nothing. absurd none
      | Some machine ↦ λ is t u. f
          ∙ ap (Rea m (snap net journal m))
          (one machine (snap net journal m) o q (d m machine is)
          (snap_fits net journal m machine h is) t u) ∙ sym g
    ] refl may might
one_picked one net journal Stop x y d h f g = absurd f

-- of two journals that go on by picks the shorter is a prefix of the longer
one_following : OneOutcome → TransitionFits
    → (net : Network) (trace : List TraceItem) (prefix xs ys : List Entry) → AreDeterministic net
    → IsTrace net trace → Legal net trace prefix → FollowsAfter net trace prefix xs
    → FollowsAfter net trace prefix ys → length xs ≤ length ys → Begins xs ys
one_following one fits net trace prefix [] ys d t h f g short = (ys, refl)
one_following one fits net trace prefix (x ∷ xs) [] d t h f g short = absurd (omega arith)
one_following one fits net trace prefix (x ∷ xs) (y ∷ ys) d t h f g short =
    let same : x ≡ y = one_picked one net prefix (pick net trace prefix) x y d h.0 f.0 g.0 in
    let next =
    picked_is_legal net trace prefix x h f.0 (picked_fits fits net trace prefix x t h.0 f.0) in
    let rest =
    one_following one fits net trace (prefix ++ x ∷ []) xs ys d t next f.1
    (subst (λ z. FollowsAfter net trace (prefix ++ z ∷ []) ys) (sym same) g.1) (omega arith) in
    (rest.0, ap (λ z. z ∷ ys) (sym same) ∙ ap (λ l. x ∷ l) rest.1)

-- after a journal where the scheduler stops nothing follows
nothing_follows : (net : Network) (trace : List TraceItem) (prefix rest : List Entry)
    → FollowsAfter net trace prefix rest → pick net trace prefix ≡ Stop → rest ≡ []
nothing_follows net trace prefix [] h stop = refl
nothing_follows net trace prefix (entry ∷ rest) h stop =
    absurd (subst (λ p. IsPicked net prefix p entry) stop h.0)

follows_rest : (net : Network) (trace : List TraceItem) (prefix xs rest : List Entry)
    → FollowsAfter net trace prefix (xs ++ rest) → FollowsAfter net trace (prefix ++ xs) rest
follows_rest net trace prefix [] rest h =
    subst (λ j. FollowsAfter net trace j rest) (sym (append-nil prefix)) h
follows_rest net trace prefix (x ∷ xs) rest h =
    subst (λ j. FollowsAfter net trace j rest) (append_assoc prefix (x ∷ []) xs)
    (follows_rest net trace (prefix ++ x ∷ []) xs rest h.1)

shorter_is_whole : OneOutcome → TransitionFits
    → (net : Network) (trace : List TraceItem) (n : ℕ) (j k : List Entry) → AreDeterministic net
    → IsTrace net trace → IsSchedule net trace n j → IsSchedule net trace n k → length j ≤ length k
    → j ≡ k
shorter_is_whole one fits net trace n j k d t f g short =
    let prefix = one_following one fits net trace [] j k d t (tt, tt) f.follows g.follows short in
    let rest : List Entry = prefix.0 in
    let long : length k ≡ length j + length rest = ap length prefix.1 ∙ length-append j rest in
    let after =
    follows_rest net trace [] j rest
    (subst (λ l. FollowsAfter net trace [] l) prefix.1 g.follows) in
    let none : rest ≡ [] = nothing_more rest long after f.whole g.whole in
    sym (prefix.1 ∙ ap (λ l. j ++ l) none ∙ append-nil j)
  where
    nothing_more : (rest : List Entry) → length k ≡ length j + length rest
        → FollowsAfter net trace j rest
        → ((length j ≡ n) ⊎ ((length j < n) × (pick net trace j ≡ Stop)))
        → ((length k ≡ n) ⊎ ((length k < n) × (pick net trace k ≡ Stop))) → rest ≡ []
    nothing_more rest long after (inl full) (inl same) = nil_from_length rest (omega arith)
    nothing_more rest long after (inl full) (inr (below, stop)) = absurd (omega arith)
    nothing_more rest long after (inr (below, stop)) other =
        nothing_follows net trace j rest after stop

pub one_schedule : OneOutcome → TransitionFits → OneSchedule
one_schedule one fits net trace n j k d t f g =
    elim (cases_lt (length j) (length k)) [
      | inl shorter ↦ shorter_is_whole one fits net trace n j k d t f g (omega arith)
      | inr longer ↦ sym (shorter_is_whole one fits net trace n k j d t g f longer)
    ]
