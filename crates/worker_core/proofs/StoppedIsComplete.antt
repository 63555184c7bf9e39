-- Where no step can be taken, the merge is complete.
use Rattle.std.specs.Prelude.{◌≡◌, ℕ, suc, ◌<◌, ◌≤◌, max, Bool, true, false, cond, ◌&&◌, nat_lt, nat_le, is_none, List, [], ◌∷◌, ◌++◌, filter, flat_map, length, Option, Some, None}
use Rattle.std.specs.Bool.{then_some}
use Rattle.std.proofs.Common.{refl, sym, ap, ◌∙◌, arith}
use Rattle.std.proofs.lemmas.List.{append-nil, length-map}
use Rattle.std.proofs.lemmas.Option.{none-some}
use Rattle.std.proofs.lemmas.Bool.{leb-true, lt-ltb, and_from, false_from_ne_true}
use Rattle.transition_table.specs.declared.decl.Party.{Party}
use Rattle.transition_table.specs.declared.decl.Party.TheVariants.{Env, Machine as Sender}
use Rattle.transition_table.specs.declared.network.Network.{Network}
use Rattle.journals.specs.declared.entry.Owed.{Owed}
use Rattle.journals.specs.declared.entry.TraceItem.{TraceItem}
use Rattle.journals.specs.Journals.{is_woken, delivered, sent}
use Rattle.journals.specs.Legality.{Complete}
use Rattle.journals.specs.declared.stamped.Stamped.{Stamped}
use Rattle.worker_core.specs.declared.state.Hand.{Hand}
use Rattle.journals.specs.declared.stamped.CoreStep.{CoreStep}
use Rattle.journals.specs.declared.stamped.CoreStep.TheVariants.{React, Land, Free, Feed}
use Rattle.worker_core.specs.Cores.{CoreState, log_of, hand_of, may_react, may_land, reacted, landed, land, freed, free, fed, take_step}
use Rattle.journals.specs.Logs.{entries, clock, max_stamp, of_machine}
use Rattle.worker_core.specs.Facts.{IsCore, deliveries_in, count_entries, held_by, on_way, is_hand_within, log_of_party}
use Rattle.worker_core.specs.Merges.{put, by_stamp, merged}
use Rattle.worker_core.specs.inner.Known.{Known}
use Rattle.worker_core.proofs.OneEntryMore.{clock_within}
use Rattle.worker_core.proofs.Legal.{merge_is, own_entries}

-- ---- what the merge has

-- of the merge what belongs to m is the log of m
pub merged_own : (net : Network) (trace : List TraceItem) (core : CoreState) (m : ℕ)
    → IsCore net trace core → filter (of_machine m) (merged core.logs) ≡ entries (log_of core m)
merged_own net trace core m h =
    sym (own_entries m (by_stamp (flat_map (λ log. log) core.logs)))
    ∙ ap entries ((merge_is net core.logs h.facts.alone).kept m)

merged_delivered : (net : Network) (trace : List TraceItem) (core : CoreState) (p : Party) (m : ℕ)
    → Known → IsCore net trace core
    → delivered p m (merged core.logs) ≡ delivered p m (entries (log_of core m))
merged_delivered net trace core p m known h =
    sym (known.delivered_by_own p m (merged core.logs))
    ∙ ap (delivered p m) (merged_own net trace core m h)

merged_sent : (net : Network) (trace : List TraceItem) (core : CoreState) (p : Party) (m : ℕ)
    → Known → IsCore net trace core
    → sent net trace p m (merged core.logs)
    ≡ sent net trace p m (entries (log_of_party (log_of core) p))
merged_sent net trace core Env m known h = refl
merged_sent net trace core (Sender j) m known h =
    sym (known.sent_by_own net trace j m (merged core.logs))
    ∙ ap (sent net trace (Sender j) m) (merged_own net trace core j h)

length_put : (x : Stamped) (ys : List Stamped) → length (put x ys) ≡ suc (length ys)
length_put x [] = refl
length_put x (y ∷ ys) = cases (nat_le x.stamp y.stamp) (length_put x ys)
  where
    cases : (b : Bool) → length (put x ys) ≡ suc (length ys)
        → length (cond b (x ∷ y ∷ ys) (y ∷ put x ys)) ≡ suc (suc (length ys))
    cases true h = refl
    cases false h = ap suc h

length_by_stamp : (xs : List Stamped) → length (by_stamp xs) ≡ length xs
length_by_stamp [] = refl
length_by_stamp (x ∷ xs) = length_put x (by_stamp xs) ∙ ap suc (length_by_stamp xs)

pub length_merged : (logs : List (List Stamped)) → length (merged logs) ≡ count_entries logs
length_merged logs =
    length-map (by_stamp (flat_map (λ log. log) logs)) (λ (x : Stamped). x.entry)
    ∙ length_by_stamp (flat_map (λ log. log) logs)

-- ---- where no step can be taken

then_none : {X : Type 0} (b : Bool) (x : X) → then_some b x ≡ None → b ≡ true → ⊥
then_none b x e is = none-some x (sym e ∙ ap (λ b. then_some b x) is)

clock_small : (net : Network) (trace : List TraceItem) (core : CoreState) (m : ℕ)
    → IsCore net trace core → clock (log_of core m) ≤ count_entries core.logs
clock_small net trace core m h =
    clock_within 0 (count_entries core.logs) (log_of core m) (omega arith) (h.facts.within m)

none_busy : (net : Network) (trace : List TraceItem) (core : CoreState) (s : ℕ) (o : Option Hand)
    → IsCore net trace core → count_entries core.logs < max_stamp → hand_of core s ≡ o
    → land core s o ≡ None → free core s o ≡ None → hand_of core s ≡ None
none_busy net trace core s None h small is lands frees = is
none_busy net trace core s (Some hand) h small is lands frees =
    absurd (cases hand.deliveries lands frees)
  where
    cases : (ds : List Owed) → landed core s hand.stamp ds ≡ None → freed core s ds ≡ None → ⊥
    cases [] lands frees = none-some _ (sym frees)
    cases (d ∷ ds) lands frees =
        let low = clock_small net trace core d.to h in
        let few =
        leb-true hand.stamp (count_entries core.logs)
        (sym (ap (is_hand_within (count_entries core.logs)) is) ∙ h.facts.hands_within s) in
        then_none (may_land (log_of core d.to) hand.stamp) _ lands
        (lt-ltb (max (clock (log_of core d.to)) hand.stamp) max_stamp (omega arith))

no_rest : (net : Network) (trace : List TraceItem) (core : CoreState) (ds : List Owed)
    → IsCore net trace core → count_entries core.logs < max_stamp → core.rest ≡ ds
    → fed core ds ≡ None → core.rest ≡ []
no_rest net trace core [] h small is feeds = is
no_rest net trace core (d ∷ ds) h small is feeds =
    let low = clock_small net trace core d.to h in
    absurd (then_none (may_land (log_of core d.to) 0) _ feeds
    (lt-ltb (max (clock (log_of core d.to)) 0) max_stamp (omega arith)))

pub stopped_is_complete : (net : Network) (trace : List TraceItem) (core : CoreState) → Known
    → IsCore net trace core → count_entries core.logs < max_stamp
    → ((step : CoreStep) → take_step net core step ≡ None) → Complete net trace (merged core.logs)
stopped_is_complete net trace core known h small stopped =
    let idle : (s : ℕ) → hand_of core s ≡ None =
    λ s. none_busy net trace core s (hand_of core s) h small refl (stopped (Land s))
    (stopped (Free s)) in
    let none : core.rest ≡ [] = no_rest net trace core core.rest h small refl (stopped Feed) in
    record {
      all_delivered =
          λ p m party below. merged_delivered net trace core p m known h ∙ all_landed idle none p m
          ∙ sym (merged_sent net trace core p m known h);
      none_woken =
          λ m below. sym (known.woken_by_own m (merged core.logs))
          ∙ ap (λ j. is_woken j m) (merged_own net trace core m h) ∙ asleep m (idle m);
    }
  where
    nothing_held : ((s : ℕ) → hand_of core s ≡ None) → core.rest ≡ [] → (p : Party)
        → held_by (hand_of core) core.rest p ≡ []
    nothing_held idle none Env = none
    nothing_held idle none (Sender j) = ap deliveries_in (idle j)

    all_landed : ((s : ℕ) → hand_of core s ≡ None) → core.rest ≡ [] → (p : Party) (m : ℕ)
        → delivered p m (entries (log_of core m))
        ≡ sent net trace p m (entries (log_of_party (log_of core) p))
    all_landed idle none p m =
        sym (append-nil (delivered p m (entries (log_of core m))))
        ∙ sym (ap (λ l. delivered p m (entries (log_of core m)) ++ on_way p m l)
        (nothing_held idle none p))
        ∙ h.facts.on_the_way p m

    asleep : (m : ℕ) → hand_of core m ≡ None → is_woken (entries (log_of core m)) m ≡ false
    asleep m idle =
        false_from_ne_true (is_woken (entries (log_of core m)) m) (λ woken.
        let low = clock_small net trace core m h in
        then_none (may_react m (log_of core m) (hand_of core m)) (reacted net core m)
        (stopped (React m))
        (and_from (is_none (hand_of core m) && is_woken (entries (log_of core m)) m)
        (nat_lt (clock (log_of core m)) max_stamp)
        (and_from (is_none (hand_of core m)) (is_woken (entries (log_of core m)) m)
        (ap is_none idle) woken)
        (lt-ltb (clock (log_of core m)) max_stamp (omega arith))))
