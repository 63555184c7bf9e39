-- The stamps of the logs are the least ones.
use Rattle.std.specs.Prelude.{◌≡◌, ℕ, zero, suc, ◌+◌, ◌<◌, max, Bool, true, false, cond, ◌&&◌, nat_lt, nat_le, List, [], ◌∷◌, ◌++◌, filter, flat_map, length, take, drop, replicate, Option, Some, None}
use Rattle.std.proofs.Common.{refl, sym, ap, ◌∙◌, subst, inl, inr, arith, append_assoc, length-append}
use Rattle.std.proofs.lemmas.List.{append-nil, drop_all, drop-append-le, take-append-le, length-drop}
use Rattle.std.proofs.lemmas.Option.{same_Some, none-some}
use Rattle.std.proofs.lemmas.List.Concat.{flat_map-append}
use Rattle.std.proofs.lemmas.List.Elements.{filter-append}
use Rattle.std.proofs.lemmas.Bool.{ltb-true, and_parts}
use Rattle.polis_base.specs.Lists.{Begins, last_of}
use Rattle.transition_table.specs.declared.decl.Party.TheVariants.{Env, Machine as Sender}
use Rattle.transition_table.specs.declared.network.Network.{Network}
use Rattle.journals.specs.declared.entry.Entry.{Entry}
use Rattle.journals.specs.declared.entry.Entry.TheVariants.{Dep, Rea}
use Rattle.journals.specs.declared.entry.Owed.{Owed}
use Rattle.journals.specs.declared.entry.TraceItem.{TraceItem}
use Rattle.journals.specs.declared.stamped.Stamped.{Stamped}
use Rattle.journals.specs.Journals.{reads, is_firing_of, emissions, delivered, sent}
use Rattle.journals.specs.Logs.{entries, stamps as stamps_of, clock, max_stamp, rises}
use Rattle.journals.specs.StampLaws.{origin_in, AllLeastIn}
use Rattle.journals.specs.Stamps.{greatest, once_each, stamps_sent}
use Rattle.worker_core.specs.declared.state.Hand.{Hand}
use Rattle.worker_core.specs.Facts.{stamped_below, InTime, AllInTime, deliveries_in, on_way, stamps_held}
use Rattle.worker_core.specs.inner.Known.{Known}
use Rattle.worker_core.proofs.Legal.{begins_sent}
use Rattle.worker_core.proofs.OneEntryMore.{HasMore, more_or_same}
use Rattle.journals.proofs.DeliveredBeginsSent.{delivered_own}
use Rattle.journals.proofs.OwedAfter.{begins_shorter}
use Rattle.journals.proofs.StampSteps.{entries_more}
use Rattle.journals.proofs.LeastStamps.{greatest_both}

-- ---- the greatest stamp of a log is its clock

greatest_rising : (low : ℕ) (log : List Stamped) → rises low log ≡ true
    → max low (greatest (stamps_of log)) ≡ last_of low (stamps_of log)
greatest_rising low [] h = omega arith
greatest_rising low (x ∷ xs) h =
    let parts = and_parts (nat_lt low x.stamp && nat_le x.stamp max_stamp) (rises x.stamp xs) h in
    let first =
    ltb-true low x.stamp (and_parts (nat_lt low x.stamp) (nat_le x.stamp max_stamp) parts.0).0 in
    let rest = greatest_rising x.stamp xs parts.1 in
    omega arith

pub greatest_is_clock : (log : List Stamped) (more : List ℕ) → rises 0 log ≡ true
    → greatest (stamps_of log ++ more) ≡ max (clock log) (greatest more)
greatest_is_clock log more h =
    let both = greatest_both (stamps_of log) more in
    let own = greatest_rising 0 log h in
    omega arith

-- ---- the stamps of what was sent

pub stamps_push : (net : Network) (s m : ℕ) (xs : List Stamped) (x : Stamped)
    → stamps_sent net s m (xs ++ x ∷ []) ≡ stamps_sent net s m xs ++ stamps_sent net s m (x ∷ [])
stamps_push net s m xs x =
    ap (flat_map (once_each net m))
    (filter-append (λ (y : Stamped). is_firing_of s y.entry) xs (x ∷ []))
    ∙ flat_map-append (once_each net m) (filter (λ (y : Stamped). is_firing_of s y.entry) xs)
    (filter (λ (y : Stamped). is_firing_of s y.entry) (x ∷ []))

-- of one entry
pub stamps_of_one : (net : Network) (trace : List TraceItem) (s m : ℕ) (x : Stamped)
    → stamps_sent net s m (x ∷ [])
    ≡ replicate (length (sent net trace (Sender s) m (x.entry ∷ []))) x.stamp
stamps_of_one net trace s m x = cases (is_firing_of s x.entry)
  where
    count : List (ℕ × ℕ) → List ℕ
    count es = replicate (length (filter (λ (e : ℕ × ℕ). reads net m e.0) es)) x.stamp

    cases : (b : Bool)
        → flat_map (once_each net m) (cond b (x ∷ []) [])
        ≡ replicate
        (length (filter (λ (p : ℕ × ℕ). reads net m p.0)
        (flat_map (emissions net) (cond b (x.entry ∷ []) [])))) x.stamp
    cases true =
        append-nil (once_each net m x) ∙ sym (ap count (append-nil (emissions net x.entry)))
    cases false = refl

pub drop_whole : (n : ℕ) (xs ys : List ℕ) → n ≡ length xs → drop n (xs ++ ys) ≡ ys
drop_whole n xs ys h =
    drop-append-le n xs ys (omega arith) ∙ ap (λ l. l ++ ys) (drop_all n xs (omega arith))

pub drop_replicate : (t a b n : ℕ) → n ≡ a + b → drop a (replicate n t) ≡ replicate b t
drop_replicate t zero b n h = let same : n ≡ b = omega arith in ap (λ k. replicate k t) same
drop_replicate t (suc a) b zero h = absurd (omega arith)
drop_replicate t (suc a) b (suc n) h = drop_replicate t a b n (omega arith)

-- ---- hands

abbrev pub stamp_in : Option Hand → Option ℕ
stamp_in None = None
stamp_in (Some hand) = Some hand.stamp

pub held_same : (s m : ℕ) (g h : Option Hand) → stamp_in g ≡ stamp_in h
    → deliveries_in g ≡ deliveries_in h → stamps_held g s m ≡ stamps_held h s m
held_same s m None None e d = refl
held_same s m None (Some b) e d = absurd (none-some b.stamp e)
held_same s m (Some a) None e d = absurd (none-some a.stamp (sym e))
held_same s m (Some a) (Some b) e d =
    ap (λ t. replicate (length (on_way (Sender s) m a.deliveries)) t) (same_Some a.stamp b.stamp e)
    ∙ ap (λ (l : List Owed). replicate (length (on_way (Sender s) m l)) b.stamp) d

pub nothing_held : (s m : ℕ) (h : Option Hand) → deliveries_in h ≡ [] → stamps_held h s m ≡ []
nothing_held s m None e = refl
nothing_held s m (Some hand) e =
    ap (λ (l : List Owed). replicate (length (on_way (Sender s) m l)) hand.stamp) e

-- ---- where a log grows, the origins of landings in time stay

stamped_begins : (t : ℕ) (xs : List Stamped) → Begins (stamped_below t xs) xs
stamped_begins t [] = ([], refl)
stamped_begins t (x ∷ xs) = cases (nat_lt x.stamp t) (stamped_begins t xs)
  where
    cases : (b : Bool) → Begins (stamped_below t xs) xs
        → Begins (cond b (x ∷ stamped_below t xs) []) (x ∷ xs)
    cases true (rest, e) = (rest, ap (λ l. x ∷ l) e)
    cases false g = (x ∷ xs, refl)

-- fewer were delivered before a landing in time than were sent
fewer_delivered : (net : Network) (trace : List TraceItem) (logs : ℕ → List Stamped)
    (before : List Entry) (t s m e c : ℕ) → InTime net trace logs before t (Dep (Sender s) m e c)
    → length (delivered (Sender s) m before) < length
    (sent net trace (Sender s) m (entries (logs s)))
fewer_delivered net trace logs before t s m e c h =
    let one = ap length (delivered_own (Sender s) m e c before) in
    let two = length-append (delivered (Sender s) m before) ((e, c) ∷ []) in
    let low =
    begins_shorter (delivered (Sender s) m (before ++ Dep (Sender s) m e c ∷ []))
    (sent net trace (Sender s) m (entries (stamped_below t (logs s)))) h in
    let high =
    begins_shorter (sent net trace (Sender s) m (entries (stamped_below t (logs s))))
    (sent net trace (Sender s) m (entries (logs s)))
    (begins_sent net trace s m (stamped_below t (logs s)) (logs s)
    (stamped_begins t (logs s))) in
    let single : length {A = ℕ × ℕ} ((e, c) ∷ []) ≡ 1 = refl in
    omega arith

first_stays : (n : ℕ) (xs ys : List ℕ) → n < length xs
    → take 1 (drop n (xs ++ ys)) ≡ take 1 (drop n xs)
first_stays n xs ys below =
    ap (take 1) (drop-append-le n xs ys (omega arith))
    ∙ take-append-le 1 (drop n xs) ys (let left = length-drop n xs in omega arith)

origin_stays : (net : Network) (trace : List TraceItem) (logs new : ℕ → List Stamped) (m : ℕ)
    (x : Stamped) → Known → HasMore logs new m x → (before : List Stamped) (t : ℕ) (entry : Entry)
    → InTime net trace logs (entries before) t entry
    → origin_in net new before entry ≡ origin_in net logs before entry
origin_stays net trace logs new m x known more before t (Rea k s o) h = refl
origin_stays net trace logs new m x known more before t (Dep Env k e c) h = refl
origin_stays net trace logs new m x known more before t (Dep (Sender s) k e c) h =
    let n : ℕ = length (delivered (Sender s) k (entries before)) in
    elim (more_or_same logs new m x s more) [
      | inl (same, longer) ↦
          let few = fewer_delivered net trace logs (entries before) t s k e c h in
          let many = known.as_many net trace s k (logs s) in
          ap (λ l. take 1 (drop n (stamps_sent net s k l))) longer
          ∙ ap (λ l. take 1 (drop n l)) (stamps_push net s k (logs s) x)
          ∙ first_stays n (stamps_sent net s k (logs s)) (stamps_sent net s k (x ∷ []))
          (omega arith)
      | inr (other, same) ↦ ap (λ l. take 1 (drop n (stamps_sent net s k l))) same
    ]

all_least_still : (net : Network) (trace : List TraceItem) (logs new : ℕ → List Stamped) (m : ℕ)
    (x : Stamped) → Known → HasMore logs new m x → (before xs : List Stamped)
    → AllInTime net trace logs (entries before) xs
    → AllLeastIn net logs before xs
    → AllLeastIn net new before xs
all_least_still net trace logs new m x known more before [] g h = tt
all_least_still net trace logs new m x known more before (y ∷ xs) g h = (
  h.0
      ∙ ap (λ l. suc (greatest (stamps_of before ++ l)))
      (sym (origin_stays net trace logs new m x known more before y.stamp y.entry g.0)),
  all_least_still net trace logs new m x known more (before ++ y ∷ []) xs
      (subst (λ l. AllInTime net trace logs l xs) (sym (entries_more before y)) g.1) h.1,
)

least_push : (net : Network) (logs : ℕ → List Stamped) (before xs : List Stamped) (x : Stamped)
    → AllLeastIn net logs before xs
    → x.stamp
    ≡ suc (greatest (stamps_of (before ++ xs) ++ origin_in net logs (before ++ xs) x.entry))
    → AllLeastIn net logs before (xs ++ x ∷ [])
least_push net logs before [] x h e = (
  subst (λ l. x.stamp ≡ suc (greatest (stamps_of l ++ origin_in net logs l x.entry)))
      (append-nil before) e,
  tt,
)
least_push net logs before (y ∷ xs) x h e = (
  h.0,
  least_push net logs (before ++ y ∷ []) xs x h.1
      (subst (λ l. x.stamp ≡ suc (greatest (stamps_of l ++ origin_in net logs l x.entry)))
      (sym (append_assoc before (y ∷ []) xs)) e),
)

-- where the new entry's stamp is the least one, all are still
pub all_least_more : (net : Network) (trace : List TraceItem) (logs new : ℕ → List Stamped) (m : ℕ)
    (x : Stamped) → Known → HasMore logs new m x
    → ((k : ℕ) → AllInTime net trace logs [] (logs k))
    → ((k : ℕ) → AllLeastIn net logs [] (logs k))
    → rises 0 (logs m) ≡ true
    → x.stamp ≡ suc (max (clock (logs m)) (greatest (origin_in net new (logs m) x.entry)))
    → (k : ℕ) → AllLeastIn net new [] (new k)
all_least_more net trace logs new m x known more in_time least rising stamp k =
    elim (more_or_same logs new m x k more) [
      | inl (same, longer) ↦
          let above : x.stamp
          ≡ suc (greatest (stamps_of (logs m) ++ origin_in net new (logs m) x.entry)) =
          stamp
          ∙ ap suc (sym (greatest_is_clock (logs m) (origin_in net new (logs m) x.entry) rising)) in
          subst (AllLeastIn net new []) (sym longer)
          (least_push net new [] (logs k) x
          (all_least_still net trace logs new m x known more [] (logs k) (in_time k) (least k))
          (subst (λ j. x.stamp
          ≡ suc (greatest (stamps_of (logs j) ++ origin_in net new (logs j) x.entry)))
          (sym same) above))
      | inr (other, same) ↦ subst (AllLeastIn net new []) (sym same)
          (all_least_still net trace logs new m x known more [] (logs k) (in_time k) (least k))
    ]
