-- A log with one entry more.
use Rattle.std.specs.Prelude.{◌≡◌, ℕ, zero, suc, ◌+◌, ◌<◌, ◌≤◌, Bool, true, false, cond, not, ◌&&◌, ◌||◌, nat_lt, nat_le, List, [], ◌∷◌, ◌++◌, map, flat_map, length, get_or, set, Option, Some, None, ◌⊎◌}
use Rattle.std.specs.List.{list_all}
use Rattle.std.proofs.Common.{refl, sym, ap, ◌∙◌, subst, inl, inr, arith, append_assoc, length-append}
use Rattle.std.proofs.lemmas.List.{append-nil}
use Rattle.std.proofs.lemmas.List.Folds.{list_all-append}
use Rattle.std.proofs.lemmas.Bool.{leb-true, le-leb, lt-ltb, ltb-true, cases_eq, and_parts, and_from, or_left}
use Rattle.polis_base.specs.Lists.{Begins, last_of}
use Rattle.transition_table.specs.declared.decl.Party.{Party}
use Rattle.transition_table.specs.declared.decl.Party.TheVariants.{Env, Machine as Sender}
use Rattle.transition_table.specs.declared.network.Network.{Network}
use Rattle.journals.specs.declared.entry.Entry.{Entry}
use Rattle.journals.specs.declared.entry.Entry.TheVariants.{Dep, Rea}
use Rattle.journals.specs.declared.entry.TraceItem.{TraceItem}
use Rattle.journals.specs.Journals.{FitsNetwork, is_firing_of, delivered, sent}
use Rattle.journals.specs.Reactions.{MayReactIfReaction}
use Rattle.journals.specs.declared.stamped.Stamped.{Stamped}
use Rattle.worker_core.specs.declared.state.Hand.{Hand}
use Rattle.journals.specs.Logs.{max_stamp, entries, clock}
use Rattle.journals.specs.Logs.{rises}
use Rattle.journals.specs.Alone.{is_own, ReactsAfter, LegalAlone}
use Rattle.worker_core.specs.Facts.{stamped_below, log_of_party, InTime, AllInTime, is_last_firing, is_hand_within, count_entries}
use Rattle.worker_core.proofs.ByStamp.{all_more}
use Rattle.journals.proofs.DeliveredBeginsSent.{begins_further}
use Rattle.worker_core.proofs.Legal.{begins_sent, both_fit}

-- the logs with the entry x more in m's
pub record HasMore (logs new : ℕ → List Stamped) (m : ℕ) (x : Stamped) : Type 0 where
  pub here : new m ≡ logs m ++ x ∷ []
  pub away : (k : ℕ) → (k ≡ m → ⊥) → new k ≡ logs k

pub more_or_same : (logs new : ℕ → List Stamped) (m : ℕ) (x : Stamped) (k : ℕ)
    → HasMore logs new m x
    → ((k ≡ m) × (new k ≡ logs k ++ x ∷ [])) ⊎ ((k ≡ m → ⊥) × (new k ≡ logs k))
more_or_same logs new m x k more =
    elim (cases_eq k m) [
      | inl same ↦ inl (same, subst (λ j. new j ≡ logs j ++ x ∷ []) (sym same) more.here)
      | inr other ↦ inr (other, more.away k other)
    ]

-- ---- the stamps

pub rises_more : (low : ℕ) (xs : List Stamped) (x : Stamped) → rises low xs ≡ true
    → last_of low (map (λ y. y.stamp) xs) < x.stamp → x.stamp ≤ max_stamp
    → rises low (xs ++ x ∷ []) ≡ true
rises_more low [] x h above most =
    and_from (nat_lt low x.stamp && nat_le x.stamp max_stamp) true
    (and_from (nat_lt low x.stamp) (nat_le x.stamp max_stamp) (lt-ltb low x.stamp above)
    (le-leb x.stamp max_stamp most)) refl
rises_more low (y ∷ xs) x h above most =
    let parts = and_parts (nat_lt low y.stamp && nat_le y.stamp max_stamp) (rises y.stamp xs) h in
    and_from (nat_lt low y.stamp && nat_le y.stamp max_stamp) (rises y.stamp (xs ++ x ∷ [])) parts.0
    (rises_more y.stamp xs x parts.1 above most)

last_not_below : (low : ℕ) (xs : List Stamped) → rises low xs ≡ true
    → low ≤ last_of low (map (λ y. y.stamp) xs)
last_not_below low [] h = omega arith
last_not_below low (x ∷ xs) h =
    let parts = and_parts (nat_lt low x.stamp && nat_le x.stamp max_stamp) (rises x.stamp xs) h in
    let first =
    ltb-true low x.stamp (and_parts (nat_lt low x.stamp) (nat_le x.stamp max_stamp) parts.0).0 in
    let rest = last_not_below x.stamp xs parts.1 in
    omega arith

-- no stamp is above the clock
pub none_above_clock : (low : ℕ) (xs : List Stamped) → rises low xs ≡ true
    → list_all (λ y. nat_le y.stamp (last_of low (map (λ y. y.stamp) xs))) xs ≡ true
none_above_clock low [] h = refl
none_above_clock low (x ∷ xs) h =
    let parts = and_parts (nat_lt low x.stamp && nat_le x.stamp max_stamp) (rises x.stamp xs) h in
    let last = last_of x.stamp (map (λ (y : Stamped). y.stamp) xs) in
    and_from (nat_le x.stamp last) (list_all (λ y. nat_le y.stamp last) xs)
    (le-leb x.stamp last (last_not_below x.stamp xs parts.1))
    (none_above_clock x.stamp xs parts.1)

pub clock_within : (low n : ℕ) (xs : List Stamped) → low ≤ n
    → list_all (λ y. nat_le y.stamp n) xs ≡ true → last_of low (map (λ y. y.stamp) xs) ≤ n
clock_within low n [] small h = small
clock_within low n (x ∷ xs) small h =
    let parts = and_parts (nat_le x.stamp n) (list_all (λ y. nat_le y.stamp n) xs) h in
    clock_within x.stamp n xs (leb-true x.stamp n parts.0) parts.1

pub within_more : (n : ℕ) (xs : List Stamped) → list_all (λ y. nat_le y.stamp n) xs ≡ true
    → list_all (λ y. nat_le y.stamp (n + 1)) xs ≡ true
within_more n xs h =
    all_more (λ y. nat_le y.stamp n) (λ y. nat_le y.stamp (n + 1)) xs
    (λ y small. le-leb y.stamp (n + 1) (let less = leb-true y.stamp n small in omega arith)) h

pub hand_within_more : (n : ℕ) (h : Option Hand) → is_hand_within n h ≡ true
    → is_hand_within (n + 1) h ≡ true
hand_within_more n None h = refl
hand_within_more n (Some hand) h =
    le-leb hand.stamp (n + 1) (let less = leb-true hand.stamp n h in omega arith)

pub all_push : {X : Type 0} (p : X → Bool) (xs : List X) (x : X) → list_all p xs ≡ true → p x ≡ true
    → list_all p (xs ++ x ∷ []) ≡ true
all_push p xs x h g =
    list_all-append p xs (x ∷ [])
    ∙ and_from (list_all p xs) (p x && true) h (and_from (p x) true g refl)

-- ---- legal by itself

reacts_more : (net : Network) (before : List Entry) (xs : List Stamped) (x : Stamped)
    → ReactsAfter net before (entries xs)
    → MayReactIfReaction net (before ++ entries xs) x.entry
    → ReactsAfter net before (entries (xs ++ x ∷ []))
reacts_more net before [] x h may =
    (subst (λ l. MayReactIfReaction net l x.entry) (append-nil before) may, tt)
reacts_more net before (y ∷ xs) x h may = (
  h.0,
  reacts_more net (before ++ y.entry ∷ []) xs x h.1
      (subst (λ l. MayReactIfReaction net l x.entry)
      (sym (append_assoc before (y.entry ∷ []) (entries xs))) may),
)

pub alone_more : (net : Network) (m : ℕ) (log : List Stamped) (x : Stamped) → LegalAlone net m log
    → clock log < x.stamp → x.stamp ≤ max_stamp → FitsNetwork net x.entry
    → is_own net m x.entry ≡ true → MayReactIfReaction net (entries log) x.entry
    → LegalAlone net m (log ++ x ∷ [])
alone_more net m log x h above most fits own may = record {
  rising = rises_more 0 log x h.rising above most;
  fitting = both_fit net log (x ∷ []) h.fitting (fits, tt);
  own = all_push (λ y. is_own net m y.entry) log x h.own own;
  reacting = reacts_more net [] log x h.reacting may;
}

-- ---- landings in time

below_more : (t : ℕ) (xs ys : List Stamped)
    → Begins (stamped_below t xs) (stamped_below t (xs ++ ys))
below_more t [] ys = (stamped_below t ys, refl)
below_more t (x ∷ xs) ys = cases (nat_lt x.stamp t) (below_more t xs ys)
  where
    cases : (b : Bool) → Begins (stamped_below t xs) (stamped_below t (xs ++ ys))
        → Begins (cond b (x ∷ stamped_below t xs) []) (cond b (x ∷ stamped_below t (xs ++ ys)) [])
    cases true (rest, e) = (rest, ap (λ l. x ∷ l) e)
    cases false h = ([], refl)

sent_below_more : (net : Network) (trace : List TraceItem) (logs new : ℕ → List Stamped) (m : ℕ)
    (x : Stamped) (t : ℕ) (s : Party) (k : ℕ) → HasMore logs new m x
    → Begins (sent net trace s k (entries (stamped_below t (log_of_party logs s))))
    (sent net trace s k (entries (stamped_below t (log_of_party new s))))
sent_below_more net trace logs new m x t Env k more =
    ([], sym (append-nil (sent net trace Env k [])))
sent_below_more net trace logs new m x t (Sender j) k more =
    begins_sent net trace j k (stamped_below t (logs j)) (stamped_below t (new j))
    (elim (more_or_same logs new m x j more) [
      | inl (same, longer) ↦ subst (λ l. Begins (stamped_below t (logs j)) (stamped_below t l))
          (sym longer) (below_more t (logs j) (x ∷ []))
      | inr (other, same) ↦ subst (λ l. Begins (stamped_below t (logs j)) (stamped_below t l))
          (sym same) ([], sym (append-nil (stamped_below t (logs j))))
    ])

in_time_still : (net : Network) (trace : List TraceItem) (logs new : ℕ → List Stamped) (m : ℕ)
    (x : Stamped) → HasMore logs new m x → (before : List Entry) (t : ℕ) (entry : Entry)
    → InTime net trace logs before t entry → InTime net trace new before t entry
in_time_still net trace logs new m x more before t (Rea k s o) h = h
in_time_still net trace logs new m x more before t (Dep s k e c) h =
    begins_further (delivered s k (before ++ Dep s k e c ∷ []))
    (sent net trace s k (entries (stamped_below t (log_of_party logs s))))
    (sent net trace s k (entries (stamped_below t (log_of_party new s)))) h
    (sent_below_more net trace logs new m x t s k more)

all_in_time_still : (net : Network) (trace : List TraceItem) (logs new : ℕ → List Stamped) (m : ℕ)
    (x : Stamped) → HasMore logs new m x → (before : List Entry) (xs : List Stamped)
    → AllInTime net trace logs before xs → AllInTime net trace new before xs
all_in_time_still net trace logs new m x more before [] h = tt
all_in_time_still net trace logs new m x more before (y ∷ xs) h = (
  in_time_still net trace logs new m x more before y.stamp y.entry h.0,
  all_in_time_still net trace logs new m x more (before ++ y.entry ∷ []) xs h.1,
)

in_time_more : (net : Network) (trace : List TraceItem) (logs : ℕ → List Stamped)
    (before : List Entry) (xs : List Stamped) (x : Stamped) → AllInTime net trace logs before xs
    → InTime net trace logs (before ++ entries xs) x.stamp x.entry
    → AllInTime net trace logs before (xs ++ x ∷ [])
in_time_more net trace logs before [] x h g =
    (subst (λ l. InTime net trace logs l x.stamp x.entry) (append-nil before) g, tt)
in_time_more net trace logs before (y ∷ xs) x h g = (
  h.0,
  in_time_more net trace logs (before ++ y.entry ∷ []) xs x h.1
      (subst (λ l. InTime net trace logs l x.stamp x.entry)
      (sym (append_assoc before (y.entry ∷ []) (entries xs))) g),
)

-- where the new entry is in time, all landings are still
pub all_in_time_more : (net : Network) (trace : List TraceItem) (logs new : ℕ → List Stamped)
    (m : ℕ) (x : Stamped) → HasMore logs new m x
    → ((k : ℕ) → AllInTime net trace logs [] (logs k))
    → InTime net trace logs (entries (logs m)) x.stamp x.entry
    → (k : ℕ) → AllInTime net trace new [] (new k)
all_in_time_more net trace logs new m x more h g k =
    elim (more_or_same logs new m x k more) [
      | inl (same, longer) ↦
          subst (AllInTime net trace new []) (sym longer)
          (in_time_more net trace new [] (logs k) x
          (all_in_time_still net trace logs new m x more [] (logs k) (h k))
          (subst (λ j. InTime net trace new (entries (logs j)) x.stamp x.entry) (sym same)
          (in_time_still net trace logs new m x more (entries (logs m)) x.stamp x.entry g)))
      | inr (other, same) ↦ subst (AllInTime net trace new []) (sym same)
          (all_in_time_still net trace logs new m x more [] (logs k) (h k))
    ]

-- ---- the last firing

pub last_firing_more : (m : ℕ) (log : List Stamped) (h : Option Hand) (x : Stamped)
    → is_last_firing m log h ≡ true → is_firing_of m x.entry ≡ false
    → is_last_firing m (log ++ x ∷ []) h ≡ true
last_firing_more m log None x h g = refl
last_firing_more m log (Some hand) x h g =
    all_push (λ y. not (is_firing_of m y.entry) || nat_le y.stamp hand.stamp) log x h
    (or_left (not (is_firing_of m x.entry)) (nat_le x.stamp hand.stamp) (ap not g))

-- ---- the number of all entries

pub count_more : (logs : List (List Stamped)) (m : ℕ) (x : Stamped) → m < length logs
    → count_entries (set logs m (get_or logs m [] ++ x ∷ [])) ≡ count_entries logs + 1
count_more [] m x below = absurd (omega arith)
count_more (log ∷ logs) zero x below =
    let left = length-append (log ++ x ∷ []) (flat_map (λ (log : List Stamped). log) logs) in
    let one = length-append log (x ∷ []) in
    let right = length-append log (flat_map (λ (log : List Stamped). log) logs) in
    omega arith
count_more (log ∷ logs) (suc m) x below =
    let left =
    length-append log
    (flat_map (λ (log : List Stamped). log) (set logs m (get_or logs m [] ++ x ∷ []))) in
    let right = length-append log (flat_map (λ (log : List Stamped). log) logs) in
    let rest = count_more logs m x (omega arith) in
    omega arith
