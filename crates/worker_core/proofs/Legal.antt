-- The merge of logs that are legal by themselves, with their landings in time, is legal.
use Rattle.std.specs.Prelude.{◌≡◌, ℕ, suc, Bool, true, false, cond, ◌==◌, nat_lt, nat_le, List, [], ◌∷◌, ◌++◌, filter, flat_map, get_or}
use Rattle.std.specs.List.{list_all}
use Rattle.std.proofs.Common.{refl, sym, ap, ◌∙◌, subst, arith, append_assoc}
use Rattle.std.proofs.lemmas.List.{append-nil, map-append}
use Rattle.std.proofs.lemmas.List.Elements.{filter-append}
use Rattle.std.proofs.lemmas.Bool.{leb-true, le-ltb, le-leb, eq-eqb, ne_eqb, eqb-true, and_parts, and_from}
use Rattle.polis_base.specs.Lists.{Begins}
use Rattle.transition_table.specs.declared.decl.Party.{Party}
use Rattle.transition_table.specs.declared.decl.Party.TheVariants.{Env, Machine as Sender}
use Rattle.transition_table.specs.declared.network.Network.{Network}
use Rattle.journals.specs.declared.entry.Entry.{Entry}
use Rattle.journals.specs.declared.entry.Entry.TheVariants.{Dep, Rea}
use Rattle.journals.specs.declared.entry.TraceItem.{TraceItem}
use Rattle.journals.specs.Journals.{FitsNetwork, IsJournal, reads, snap, is_woken, delivered, sent}
use Rattle.journals.specs.Reactions.{MayReactIfReaction}
use Rattle.journals.specs.Legality.{Legal, MayFollow, MayGoOn}
use Rattle.journals.specs.Moved.{machine_of}
use Rattle.journals.specs.declared.stamped.Stamped.{Stamped}
use Rattle.worker_core.specs.Cores.{CoreState, log_of}
use Rattle.journals.specs.Logs.{entries, of_machine, rises}
use Rattle.journals.specs.Alone.{is_own, ReactsAfter, LegalAlone}
use Rattle.worker_core.specs.Facts.{stamped_below, log_of_party, InTime, AllInTime, IsCore}
use Rattle.worker_core.specs.Merges.{put, by_stamp, merged, merged_stamps}
use Rattle.journals.specs.StampLaws.{not_falling}
use Rattle.journals.specs.Stamps.{least}
use Rattle.worker_core.specs.inner.Known.{Known}
use Rattle.worker_core.proofs.ByStamp.{all_more, not_above, Ordered, is_ordered, ordered_after, kept_by_order, one_of_all, rises_unbounded}
use Rattle.journals.proofs.DeliveredBeginsSent.{begins_further, delivered_more, sent_more}
use Rattle.journals.proofs.DeliveriesOfWay.{filter_of_map}
use Rattle.polis_base.proofs.ListTests.{all_filtered}

abbrev pub at_machine : ℕ → Stamped → Bool
at_machine m x = machine_of x.entry == m

-- ---- prefixes of a log

pub begins_sent : (net : Network) (trace : List TraceItem) (s m : ℕ) (xs ys : List Stamped)
    → Begins xs ys
    → Begins (sent net trace (Sender s) m (entries xs)) (sent net trace (Sender s) m (entries ys))
begins_sent net trace s m xs ys (rest, h) = (
  sent net trace (Sender s) m (entries rest),
  ap (λ l. sent net trace (Sender s) m (entries l)) h
      ∙ ap (sent net trace (Sender s) m) (map-append (λ (x : Stamped). x.entry) xs rest)
      ∙ sent_more net trace s m (entries xs) (entries rest),
)

-- what is stamped below t is a prefix of what stands before items whose stamps aren't below t
pub below_begins : (t : ℕ) (xs ys : List Stamped) → list_all (not_above t) ys ≡ true
    → Begins (stamped_below t (xs ++ ys)) xs
below_begins t [] [] h = ([], refl)
below_begins t [] (y ∷ ys) h =
    let first = leb-true t y.stamp (and_parts (nat_le t y.stamp) (list_all (not_above t) ys) h).0 in
    let no : nat_lt y.stamp t ≡ false = le-ltb y.stamp t first in
    rw no ([], refl)
below_begins t (x ∷ xs) ys h = cases (nat_lt x.stamp t) (below_begins t xs ys h)
  where
    cases : (b : Bool) → Begins (stamped_below t (xs ++ ys)) xs
        → Begins (cond b (x ∷ stamped_below t (xs ++ ys)) []) (x ∷ xs)
    cases true (rest, e) = (rest, ap (λ l. x ∷ l) e)
    cases false g = (x ∷ xs, refl)

reacts_at : (net : Network) (before : List Entry) (prefix : List Stamped) (x : Stamped)
    (rest : List Stamped) → ReactsAfter net before (entries (prefix ++ x ∷ rest))
    → MayReactIfReaction net (before ++ entries prefix) x.entry
reacts_at net before [] x rest h =
    subst (λ l. MayReactIfReaction net l x.entry) (sym (append-nil before)) h.0
reacts_at net before (y ∷ prefix) x rest h =
    subst (λ l. MayReactIfReaction net l x.entry)
    (append_assoc before (y.entry ∷ []) (entries prefix))
    (reacts_at net (before ++ y.entry ∷ []) prefix x rest h.1)

in_time_at : (net : Network) (trace : List TraceItem) (logs : ℕ → List Stamped)
    (before : List Entry) (prefix : List Stamped) (x : Stamped) (rest : List Stamped)
    → AllInTime net trace logs before (prefix ++ x ∷ rest)
    → InTime net trace logs (before ++ entries prefix) x.stamp x.entry
in_time_at net trace logs before [] x rest h =
    subst (λ l. InTime net trace logs l x.stamp x.entry) (sym (append-nil before)) h.0
in_time_at net trace logs before (y ∷ prefix) x rest h =
    subst (λ l. InTime net trace logs l x.stamp x.entry)
    (append_assoc before (y.entry ∷ []) (entries prefix))
    (in_time_at net trace logs (before ++ y.entry ∷ []) prefix x rest h.1)

-- ---- one entry of the merge

-- in the merge each machine's log stands in its order, and no stamp is smaller than one before it
pub record IsMerge (logs : ℕ → List Stamped) (all : List Stamped) : Type 0 where
  pub kept : (m : ℕ) → filter (at_machine m) all ≡ logs m
  pub ordered : Ordered all

-- the log of m up to an entry of m, and from there on
log_parts : (logs : ℕ → List Stamped) (all before : List Stamped) (x : Stamped)
    (rest : List Stamped) (m : ℕ) → IsMerge logs all → all ≡ before ++ x ∷ rest
    → machine_of x.entry ≡ m
    → logs m ≡ filter (at_machine m) before ++ x ∷ filter (at_machine m) rest
log_parts logs all before x rest m merge e own =
    sym (merge.kept m) ∙ ap (filter (at_machine m)) e
    ∙ filter-append (at_machine m) before (x ∷ rest)
    ∙ ap (λ b. filter (at_machine m) before
    ++ cond b (x ∷ filter (at_machine m) rest) (filter (at_machine m) rest))
    (eq-eqb (machine_of x.entry) m own)

pub own_entries : (m : ℕ) (before : List Stamped)
    → entries (filter (at_machine m) before) ≡ filter (of_machine m) (entries before)
own_entries m before = sym (filter_of_map (of_machine m) (λ (x : Stamped). x.entry) before)

-- what the sender has sent by firings of smaller stamps is a prefix of what it has sent before
sent_before : (net : Network) (trace : List TraceItem) (logs : ℕ → List Stamped)
    (all before : List Stamped) (x : Stamped) (rest : List Stamped) (s : Party) (m : ℕ) → Known
    → IsMerge logs all → all ≡ before ++ x ∷ rest
    → Begins (sent net trace s m (entries (stamped_below x.stamp (log_of_party logs s))))
    (sent net trace s m (entries before))
sent_before net trace logs all before x rest Env m known merge e =
    ([], sym (append-nil (sent net trace Env m (entries before))))
sent_before net trace logs all before x rest (Sender s) m known merge e =
    let after : list_all (not_above x.stamp) (x ∷ rest) ≡ true =
    and_from (nat_le x.stamp x.stamp) (list_all (not_above x.stamp) rest) (self x.stamp)
    (ordered_after before x rest (subst Ordered e merge.ordered)) in
    let parts : logs s ≡ filter (at_machine s) before ++ filter (at_machine s) (x ∷ rest) =
    sym (merge.kept s) ∙ ap (filter (at_machine s)) e
    ∙ filter-append (at_machine s) before (x ∷ rest) in
    let prefix =
    subst (λ l. Begins (stamped_below x.stamp l) (filter (at_machine s) before)) (sym parts)
    (below_begins x.stamp (filter (at_machine s) before) (filter (at_machine s) (x ∷ rest))
    (all_filtered (not_above x.stamp) (at_machine s) (x ∷ rest) after)) in
    subst (Begins (sent net trace (Sender s) m (entries (stamped_below x.stamp (logs s)))))
    (ap (sent net trace (Sender s) m) (own_entries s before)
    ∙ known.sent_by_own net trace s m (entries before))
    (begins_sent net trace s m (stamped_below x.stamp (logs s))
    (filter (at_machine s) before) prefix)
  where
    self : (t : ℕ) → nat_le t t ≡ true
    self t = le-leb t t (omega arith)

may_follow : (net : Network) (trace : List TraceItem) (logs : ℕ → List Stamped)
    (all before : List Stamped) (x : Stamped) (rest : List Stamped) → Known → IsMerge logs all
    → all ≡ before ++ x ∷ rest
    → ((m : ℕ) → ReactsAfter net [] (entries (logs m)))
    → ((m : ℕ) → AllInTime net trace logs [] (logs m))
    → (entry : Entry) → x.entry ≡ entry
    → MayFollow net trace (entries before) entry
may_follow net trace logs all before x rest known merge e reacting in_time (Rea m s o) is =
    let parts = log_parts logs all before x rest m merge e (ap machine_of is) in
    let own : entries (filter (at_machine m) before) ≡ filter (of_machine m) (entries before) =
    own_entries m before in
    let here : MayReactIfReaction net (entries (filter (at_machine m) before)) (Rea m s o) =
    subst (MayReactIfReaction net (entries (filter (at_machine m) before))) is
    (reacts_at net [] (filter (at_machine m) before) x (filter (at_machine m) rest)
    (subst (λ (l : List Stamped). ReactsAfter net [] (entries l)) parts (reacting m))) in (
      sym (known.woken_by_own m (entries before)) ∙ sym (ap (λ j. is_woken j m) own) ∙ here.0,
      here.1 ∙ ap (λ j. snap net j m) own ∙ known.snap_by_own net m (entries before),
      here.2,
    )
may_follow net trace logs all before x rest known merge e reacting in_time (Dep s m event code) is =
    let entry : Entry = Dep s m event code in
    let prefix : List Stamped = filter (at_machine m) before in
    let parts = log_parts logs all before x rest m merge e (ap machine_of is) in
    let here : InTime net trace logs (entries prefix) x.stamp (Dep s m event code) =
    subst (InTime net trace logs (entries prefix) x.stamp) is
    (in_time_at net trace logs [] prefix x (filter (at_machine m) rest)
    (subst (AllInTime net trace logs []) parts (in_time m))) in
    let own : delivered s m (entries prefix) ≡ delivered s m (entries before) =
    ap (delivered s m) (own_entries m before) ∙ known.delivered_by_own s m (entries before) in
    let same : delivered s m (entries prefix ++ entry ∷ [])
    ≡ delivered s m (entries before ++ entry ∷ []) =
    delivered_more s m (entries prefix) entry ∙ ap (λ l. l ++ delivered s m (entry ∷ [])) own
    ∙ sym (delivered_more s m (entries before) entry) in
    begins_further (delivered s m (entries before ++ entry ∷ []))
    (sent net trace s m (entries (stamped_below x.stamp (log_of_party logs s))))
    (sent net trace s m (entries before))
    (subst (λ l. Begins l
    (sent net trace s m (entries (stamped_below x.stamp (log_of_party logs s))))) same here)
    (sent_before net trace logs all before x rest s m known merge e)

-- ---- the whole merge

go_on : (net : Network) (trace : List TraceItem) (logs : ℕ → List Stamped)
    (all before rest : List Stamped) → Known → IsMerge logs all → all ≡ before ++ rest
    → ((m : ℕ) → ReactsAfter net [] (entries (logs m)))
    → ((m : ℕ) → AllInTime net trace logs [] (logs m))
    → MayGoOn net trace (entries before) (entries rest)
go_on net trace logs all before [] known merge e reacting in_time = tt
go_on net trace logs all before (x ∷ rest) known merge e reacting in_time = (
  may_follow net trace logs all before x rest known merge e reacting in_time x.entry refl,
  subst (λ j. MayGoOn net trace j (entries rest))
      (map-append (λ (y : Stamped). y.entry) before (x ∷ []))
      (go_on net trace logs all (before ++ x ∷ []) rest known merge
      (e ∙ sym (append_assoc before (x ∷ []) rest)) reacting in_time),
)

-- ---- each entry fits

put_fits : (net : Network) (x : Stamped) (ys : List Stamped) → FitsNetwork net x.entry
    → IsJournal net (entries ys) → IsJournal net (entries (put x ys))
put_fits net x [] h g = (h, tt)
put_fits net x (y ∷ ys) h g =
    elim (nat_le x.stamp y.stamp) as
    (λ b. IsJournal net (entries (cond b (x ∷ y ∷ ys) (y ∷ put x ys)))) [
      | true ↦ (h, g)
      | false ↦ (g.0, put_fits net x ys h g.1)
    ]

order_fits : (net : Network) (xs : List Stamped) → IsJournal net (entries xs)
    → IsJournal net (entries (by_stamp xs))
order_fits net [] h = tt
order_fits net (x ∷ xs) h = put_fits net x (by_stamp xs) h.0 (order_fits net xs h.1)

pub both_fit : (net : Network) (xs ys : List Stamped) → IsJournal net (entries xs)
    → IsJournal net (entries ys) → IsJournal net (entries (xs ++ ys))
both_fit net [] ys h g = g
both_fit net (x ∷ xs) ys h g = (h.0, both_fit net xs ys h.1 g)

logs_fit : (net : Network) (logs : List (List Stamped))
    → ((m : ℕ) → IsJournal net (entries (get_or logs m [])))
    → IsJournal net (entries (flat_map (λ log. log) logs))
logs_fit net [] h = tt
logs_fit net (log ∷ logs) h =
    both_fit net log (flat_map (λ log. log) logs) (h 0) (logs_fit net logs (λ m. h (suc m)))

-- ---- the merge of a core's logs

own_is_at : (net : Network) (m : ℕ) (entry : Entry) → is_own net m entry ≡ true
    → of_machine m entry ≡ true
own_is_at net m (Dep s to e c) h = (and_parts (to == m) (reads net m e) h).0
own_is_at net m (Rea k s o) h = h

at_one : (j k : ℕ) (x : Stamped) → (j ≡ k → ⊥) → at_machine j x ≡ true → at_machine k x ≡ false
at_one j k x other h =
    ne_eqb (machine_of x.entry) k (λ e. other (sym (eqb-true (machine_of x.entry) j h) ∙ e))

pub merge_is : (net : Network) (logs : List (List Stamped))
    → ((m : ℕ) → LegalAlone net m (get_or logs m []))
    → IsMerge (λ m. get_or logs m []) (by_stamp (flat_map (λ log. log) logs))
merge_is net logs alone =
    let all : List Stamped = flat_map (λ log. log) logs in
    let found : (m : ℕ) → filter (at_machine m) all ≡ get_or logs m [] =
    λ m. one_of_all at_machine logs m at_one
    (λ k. all_more (λ x. is_own net k x.entry) (at_machine k) (get_or logs k [])
    (λ x h. own_is_at net k x.entry h) (alone k).own) in
    record {
      kept = λ m. kept_by_order (at_machine m) 0 all
          (rises_unbounded 0 (filter (at_machine m) all)
          (subst (λ l. rises 0 l ≡ true) (sym (found m)) (alone m).rising))
          ∙ found m;
      ordered = is_ordered all;
    }

pub merged_is_legal : (net : Network) (trace : List TraceItem) (core : CoreState) → Known
    → IsCore net trace core → Legal net trace (merged core.logs)
merged_is_legal net trace core known h =
    let all : List Stamped = flat_map (λ log. log) core.logs in (
      order_fits net all (logs_fit net core.logs (λ m. (h.facts.alone m).fitting)),
      go_on net trace (log_of core) (by_stamp all) [] (by_stamp all) known
          (merge_is net core.logs h.facts.alone) refl
          (λ m. (h.facts.alone m).reacting) h.facts.in_time,
    )

-- ---- the merged stamps

not_falling_from : (xs : List Stamped) → Ordered xs → not_falling xs ≡ true
not_falling_from [] h = refl
not_falling_from (x ∷ xs) h =
    and_from (list_all (not_above x.stamp) xs) (not_falling xs) h.0 (not_falling_from xs h.1)

pub merged_is_least : (net : Network) (trace : List TraceItem) (core : CoreState) → Known
    → IsCore net trace core → least net (merged core.logs) ≡ merged_stamps core.logs
merged_is_least net trace core known h =
    let all : List Stamped = flat_map (λ log. log) core.logs in
    known.merged_least net (log_of core) (by_stamp all)
    (not_falling_from (by_stamp all) (is_ordered all))
    (merge_is net core.logs h.facts.alone).kept h.facts.least
