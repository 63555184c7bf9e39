-- The last firing and the last reaction of a log, and what a firing gives.
use Rattle.std.specs.Prelude.{◌≡◌, ℕ, ◌<◌, ◌≤◌, Bool, true, false, cond, ◌==◌, nat_le, List, [], ◌∷◌, ◌++◌, map, filter, flat_map, length, is_some, Option, Some, None}
use Rattle.std.specs.List.{list_all}
use Rattle.std.proofs.Common.{refl, ap, ◌∙◌, arith}
use Rattle.std.proofs.lemmas.List.{append-nil, map-append}
use Rattle.std.proofs.lemmas.List.Elements.{filter-append}
use Rattle.std.proofs.lemmas.Bool.{eq-eqb, le-leb, and_parts, and_from, false≢true}
use Rattle.polis_base.specs.Lists.{last_of}
use Rattle.transition_table.specs.declared.decl.Party.TheVariants.{Machine as Sender}
use Rattle.transition_table.specs.declared.network.Network.{Network}
use Rattle.transition_table.specs.declared.snapshot.Snapshot.{Snapshot}
use Rattle.transition_table.specs.declared.snapshot.Outcome.{Outcome}
use Rattle.journals.specs.declared.entry.Entry.{Entry}
use Rattle.journals.specs.declared.entry.Entry.TheVariants.{Dep, Rea}
use Rattle.journals.specs.declared.entry.Owed.{Owed}
use Rattle.journals.specs.declared.stamped.Stamped.{Stamped}
use Rattle.journals.specs.Journals.{is_firing_of, outputs_of, emitted}
use Rattle.journals.specs.Laws.{may_arrive}
use Rattle.journals.specs.Logs.{clock, max_stamp}
use Rattle.journals.specs.Moved.{is_dep}
use Rattle.journals.specs.Reactions.{outcome_in}
use Rattle.journals.specs.Schedules.{deliveries_of, firing_deliveries}
use Rattle.event_buffer.specs.declared.pending.Pending.{Pending}
use Rattle.event_buffer.specs.Arrivals.{is_arrival, are_arrivals, arrival_of}
use Rattle.event_buffer.specs.Cells.{firing_stamp, reaction_in, decided, IsLast}
use Rattle.event_buffer.proofs.LegalLogs.{clock_more}
use Rattle.journals.proofs.MomentsAfter.{last_of_push}

firings_more :
    (m : ℕ) (log : List Stamped) (x : Stamped) (b : Bool)
    → is_firing_of m x.entry ≡ b
    → firing_stamp m (log ++ x ∷ []) ≡ cond b x.stamp (firing_stamp m log)
firings_more m log x b is =
    ap clock (filter-append (λ (s : Stamped). is_firing_of m s.entry) log (x ∷ [])) ∙ last b is
  where
    firings : List Stamped
    firings = filter (λ (s : Stamped). is_firing_of m s.entry) log

    last :
        (b : Bool) → is_firing_of m x.entry ≡ b
        → clock (firings ++ cond (is_firing_of m x.entry) (x ∷ []) [])
        ≡ cond b x.stamp (firing_stamp m log)
    last true here =
        ap (λ c. clock (firings ++ cond c (x ∷ []) [])) here ∙ clock_more firings x
    last false away =
        ap (λ c. clock (firings ++ cond c (x ∷ []) [])) away ∙ ap clock (append-nil firings)

no_firing : (m : ℕ) (entry : Entry) → is_dep entry ≡ true → is_firing_of m entry ≡ false
no_firing m (Dep s to event code) h = refl
no_firing m (Rea k s o) h = absurd (false≢true h)

-- a delivery changes nothing of the last firing
pub same_firing :
    (m : ℕ) (log : List Stamped) (x : Stamped)
    → is_dep x.entry ≡ true → firing_stamp m (log ++ x ∷ []) ≡ firing_stamp m log
same_firing m log x dep = firings_more m log x false (no_firing m x.entry dep)

-- ---- the last reaction

abbrev reactions : List Stamped → List (Option (ℕ × Snapshot))
reactions log = filter is_some (map (λ (x : Stamped). reaction_in x.stamp x.entry) log)

reactions_more :
    (log : List Stamped) (x : Stamped)
    → reactions (log ++ x ∷ []) ≡ reactions log ++ reactions (x ∷ [])
reactions_more log x =
    ap (filter is_some) (map-append (λ (x : Stamped). reaction_in x.stamp x.entry) log (x ∷ []))
    ∙ filter-append is_some (map (λ (x : Stamped). reaction_in x.stamp x.entry) log)
    (reaction_in x.stamp x.entry ∷ [])

none_more : (x : Stamped) → is_dep x.entry ≡ true → reactions (x ∷ []) ≡ []
none_more x h = cases x.stamp x.entry h
  where
    cases :
        (stamp : ℕ) (entry : Entry) → is_dep entry ≡ true
        → filter is_some (reaction_in stamp entry ∷ []) ≡ []
    cases stamp (Dep s to event code) h = refl
    cases stamp (Rea m s o) h = absurd (false≢true h)

-- a reaction at the end is the last one
pub last_here :
    (net : Network) (m : ℕ) (moment : Snapshot) (log : List Stamped) (p : Pending)
    → IsLast net m (Some (p.stamp, moment)) (log ++ decided net m moment p ∷ [])
last_here net m moment log p = (
  ap (last_of {X = Option (ℕ × Snapshot)} None) (reactions_more log (decided net m moment p))
      ∙ last_of_push {X = Option (ℕ × Snapshot)} None (reactions log) (Some (p.stamp, moment)),
  λ fires. firings_more m log (decided net m moment p) true
      (and_from (m == m) (outcome_in net m moment).fires (eq-eqb m m refl) fires),
)

-- and stays so when a delivery comes after it
pub last_stays :
    (net : Network) (m : ℕ) (frozen : Option (ℕ × Snapshot)) (log : List Stamped) (x : Stamped)
    → is_dep x.entry ≡ true → IsLast net m frozen log → IsLast net m frozen (log ++ x ∷ [])
last_stays net m None log x dep h = tt
last_stays net m (Some (stamp, s)) log x dep h = (
  ap (last_of {X = Option (ℕ × Snapshot)} None)
      (reactions_more log x ∙ ap (λ l. reactions log ++ l) (none_more x dep)
      ∙ append-nil (reactions log))
      ∙ h.0,
  λ fires. same_firing m log x dep ∙ h.1 fires,
)

-- ---- what it gives

pub fires_where_sent :
    (net : Network) (m : ℕ) (s : Snapshot) (o : Outcome)
    → 0 < length (firing_deliveries net (Rea m s o)) → o.fires ≡ true
fires_where_sent net m s o h = cases o.fires h
  where
    cases :
        (b : Bool)
        → 0
        < length
        (flat_map (deliveries_of net (Sender m)) (cond b (emitted (outputs_of net m) o.outs) []))
        → b ≡ true
    cases true some = refl
    cases false some = absurd (omega arith)

pub all_arrive :
    (net : Network) (stamp : ℕ) (owed : List Owed)
    → stamp ≤ max_stamp
    → list_all (may_arrive net) owed ≡ true
    → are_arrivals net (map (arrival_of stamp) owed) ≡ true
all_arrive net stamp [] small h = refl
all_arrive net stamp (d ∷ owed) small h =
    let parts = and_parts (may_arrive net d) (list_all (may_arrive net) owed) h in
    and_from (is_arrival net (arrival_of stamp d))
    (are_arrivals net (map (arrival_of stamp) owed))
    (and_from (may_arrive net d) (nat_le stamp max_stamp) parts.0 (le-leb stamp max_stamp small))
    (all_arrive net stamp owed small parts.1)
