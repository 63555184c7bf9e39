-- The first delivery that the environment owes, and whether it is held back, by the places of the
-- trace.
use Rattle.std.specs.Prelude.{◌≡◌, ℕ, zero, suc, ◌+◌, ◌<◌, ◌≤◌, Bool, true, false, cond, ◌&&◌, ◌==◌, nat_lt, List, [], ◌∷◌, ◌++◌, map, filter, filter_map, count_by, length, take, drop, slice_get, Option, Some, option_map, unwrap_or}
use Rattle.std.specs.List.{list_all}
use Rattle.std.proofs.Common.{refl, sym, ap, ◌∙◌, subst, inl, inr, arith, append_assoc, length-append}
use Rattle.std.proofs.lemmas.List.{length-map, map-append, take-append-drop, take_more, drop_more}
use Rattle.std.proofs.lemmas.List.Elements.{filter-append, filter_map-append}
use Rattle.std.proofs.lemmas.List.Sums.{length-filter}
use Rattle.std.proofs.lemmas.Bool.{false≢true, ltb-true, ltb-false, ne_eqb, and_parts, and_from, cases_lt, lt-ltb, le-ltb}
use Rattle.std.proofs.lemmas.Option.{slice_get_cases, slice_get_within, get_or_from_slice_get}
use Rattle.polis_base.specs.Lists.{places_from, head_of}
use Rattle.transition_table.specs.NetworkFacts.{has}
use Rattle.transition_table.specs.declared.decl.EventDecl.{EventDecl}
use Rattle.transition_table.specs.declared.decl.Party.{Party}
use Rattle.transition_table.specs.declared.decl.Party.TheVariants.{Env, Machine as Sender}
use Rattle.transition_table.specs.declared.network.Network.{Network}
use Rattle.journals.specs.declared.entry.Entry.{Entry}
use Rattle.journals.specs.declared.entry.Owed.{Owed}
use Rattle.journals.specs.declared.entry.TraceItem.{TraceItem}
use Rattle.journals.specs.declared.entry.TraceItem.TheVariants.{Event, Settle}
use Rattle.journals.specs.Journals.{reads, event_of, delivered}
use Rattle.journals.specs.Cursors.{is_settle, settled_at}
use Rattle.journals.specs.Schedules.{is_way, event_code, receivers_of, deliveries_of, trace_deliveries, keep_unless, unmade, owed_by_env}
use Rattle.journals.proofs.DeliveriesOfWay.{filter_of_map, receivers_once, receivers_are_readers, reads_by_machine, read_is_event, env_ways_from}
use Rattle.journals.proofs.OwedAfter.{own_way, is_made, unmade_append, no_machine_way}
use Rattle.journals.proofs.StopsWhereComplete.{no_reader}
use Rattle.polis_base.proofs.ListTests.{count_append}

-- how many of these items are events that m reads
abbrev pub reads_in : Network → ℕ → List TraceItem → ℕ
reads_in net m items = length (filter (λ p. reads net m p.0) (filter_map event_of items))

-- ---- lists

count_positive : {X : Type 0} (p : X → Bool) (x : X) (xs : List X) → p x ≡ true
    → 1 ≤ count_by p (x ∷ xs)
count_positive p x xs h =
    let some : length (filter p (x ∷ xs)) ≡ 1 + length (filter p xs) = rw h (omega arith) in
    let whole = length-filter p (x ∷ xs) in
    omega arith

-- where the journal has as many of each way as stand here, all are made
all_made : {X : Type 0} (way : X → Owed) (journal : List Entry) (passed xs : List X)
    → ((s : Party) (m : ℕ)
    → count_by (λ x. is_way s m (way x)) (passed ++ xs) ≤ length (delivered s m journal))
    → unmade way journal passed xs ≡ []
all_made way journal passed [] h = refl
all_made way journal passed (x ∷ xs) h =
    let below = h (way x).from (way x).to in
    let parts = count_append (λ y. is_way (way x).from (way x).to (way y)) passed (x ∷ xs) in
    let here =
    count_positive (λ y. is_way (way x).from (way x).to (way y)) x xs (own_way (way x)) in
    let made : is_made way journal passed (way x).from (way x).to ≡ true =
    lt-ltb (count_by (λ y. is_way (way x).from (way x).to (way y)) passed)
    (length (delivered (way x).from (way x).to journal)) (omega arith) in
    ap (λ b. keep_unless b x (unmade way journal (passed ++ x ∷ []) xs)) made
    ∙ all_made way journal (passed ++ x ∷ []) xs
    (λ s m.
    subst (λ l. count_by (λ y. is_way s m (way y)) l ≤ length (delivered s m journal))
    (sym (append_assoc passed (x ∷ []) xs)) (h s m))

-- the first that isn't made
first_unmade : {X : Type 0} (way : X → Owed) (journal : List Entry) (ys zs : List X) (x : X)
    → ((s : Party) (m : ℕ) → count_by (λ y. is_way s m (way y)) ys ≤ length (delivered s m journal))
    → length (delivered (way x).from (way x).to journal)
    ≤ count_by (λ y. is_way (way x).from (way x).to (way y)) ys
    → head_of (unmade way journal [] (ys ++ x ∷ zs)) ≡ Some x
first_unmade way journal ys zs x made left =
    let not_made : is_made way journal ys (way x).from (way x).to ≡ false =
    le-ltb (count_by (λ y. is_way (way x).from (way x).to (way y)) ys)
    (length (delivered (way x).from (way x).to journal)) left in
    ap head_of
    (unmade_append way journal [] ys (x ∷ zs)
    ∙ ap (λ l. l ++ unmade way journal ys (x ∷ zs)) (all_made way journal [] ys made)
    ∙ ap (λ b. keep_unless b x (unmade way journal (ys ++ x ∷ []) zs)) not_made)

-- ---- the trace's deliveries in two parts

settled_after : Bool → List TraceItem → Bool
settled_after settled [] = settled
settled_after settled (Settle ∷ items) = settled_after true items
settled_after settled (Event e code ∷ items) = settled_after false items

deliveries_after : (net : Network) (settled : Bool) (prefix rest : List TraceItem)
    → trace_deliveries net settled (prefix ++ rest)
    ≡ trace_deliveries net settled prefix
    ++ trace_deliveries net (settled_after settled prefix) rest
unfolding settled_after
deliveries_after net settled [] rest = refl
deliveries_after net settled (Settle ∷ prefix) rest = deliveries_after net true prefix rest
deliveries_after net settled (Event e code ∷ prefix) rest =
    ap (λ l. map (λ d. (d, settled)) (deliveries_of net Env (e, code)) ++ l)
    (deliveries_after net false prefix rest)
    ∙ sym
    (append_assoc (map (λ d. (d, settled)) (deliveries_of net Env (e, code)))
    (trace_deliveries net false prefix) (trace_deliveries net (settled_after false prefix) rest))

settled_after_prefix : (settled : Bool) (trace : List TraceItem) (i : ℕ) → i < length trace
    → settled_after settled (take (suc i) trace) ≡ is_settle (slice_get trace i)
unfolding settled_after
settled_after_prefix settled [] i h = absurd (omega arith)
settled_after_prefix settled (Settle ∷ items) zero h = refl
settled_after_prefix settled (Event e code ∷ items) zero h = refl
settled_after_prefix settled (Settle ∷ items) (suc i) h =
    settled_after_prefix true items i (omega arith)
settled_after_prefix settled (Event e code ∷ items) (suc i) h =
    settled_after_prefix false items i (omega arith)

settled_is : (trace : List TraceItem) (i : ℕ) → i ≤ length trace
    → settled_after false (take i trace) ≡ settled_at trace i
unfolding settled_after
settled_is trace zero h = refl
settled_is trace (suc i) h = settled_after_prefix false trace i (omega arith)

-- ---- a receiver among the others

places_split : {X : Type 0} (test : X → Bool) (n i m : ℕ) (xs : List X) → n + i ≡ m
    → unwrap_or (option_map test (slice_get xs i)) false ≡ true
    → (before : List ℕ) × (after : List ℕ) × (places_from n test xs ≡ before ++ m ∷ after)
    × (list_all (λ j. nat_lt j m) before ≡ true)
places_split test n i m [] place h = absurd (false≢true h)
places_split test n zero m (x ∷ xs) place h =
    let same : n ≡ m = omega arith in (
      [],
      places_from (n + 1) test xs,
      ap
          (λ b. cond b (n ∷ places_from (n + 1) test xs) (places_from (n + 1) test xs)) h
          ∙ ap (λ k. k ∷ places_from (n + 1) test xs) same,
      refl,
    )
places_split test n (suc i) m (x ∷ xs) place h =
    cases (test x) (places_split test (n + 1) i m xs (omega arith) h)
  where
    cases : (b : Bool)
        → (before : List ℕ) × (after : List ℕ) × (places_from (n + 1) test xs ≡ before ++ m ∷ after)
        × (list_all (λ j. nat_lt j m) before ≡ true)
        → (before : List ℕ) × (after : List ℕ)
        × (cond b (n ∷ places_from (n + 1) test xs) (places_from (n + 1) test xs)
        ≡ before ++ m ∷ after) × (list_all (λ j. nat_lt j m) before ≡ true)
    cases true (before, after, is, below) = (
      n ∷ before,
      after,
      ap (λ l. n ∷ l) is,
      and_from (nat_lt n m)
          (list_all (λ j. nat_lt j m) before) (lt-ltb n m (omega arith)) below,
    )
    cases false rest = rest

receivers_split : (net : Network) (m e : ℕ) → reads net m e ≡ true
    → (before : List ℕ) × (after : List ℕ) × (receivers_of net e ≡ before ++ m ∷ after)
    × (list_all (λ j. nat_lt j m) before ≡ true)
receivers_split net m e h =
    elim (slice_get_cases net.events e).1 [
      | inl (event, within, is, same) ↦
          let receivers : receivers_of net e ≡ event.receivers =
          ap (λ (o : Option EventDecl). unwrap_or (option_map (λ event. event.receivers) o) [])
          is in
          let split =
          places_split (λ machine. has machine.inputs e) 0 m m net.machines (omega arith)
          (reads_by_machine net m e ∙ h) in
          (split.0, split.1, receivers ∙ receivers_are_readers net e event is ∙ split.2, split.3)
      | inr (past, none) ↦ absurd (let below = read_is_event net m e h in omega arith)
    ]

none_above : (m k : ℕ) (ms : List ℕ) → list_all (λ j. nat_lt j m) ms ≡ true → m ≤ k
    → filter (λ j. j == k) ms ≡ []
none_above m k [] h above = refl
none_above m k (j ∷ ms) h above =
    let parts = and_parts (nat_lt j m) (list_all (λ j. nat_lt j m) ms) h in
    let below = ltb-true j m parts.0 in
    let other : (j == k) ≡ false = ne_eqb j k (λ e. omega arith) in
    rw other (none_above m k ms parts.1 above)

-- how often a machine stands before m among the receivers
once_before : (net : Network) (m e k : ℕ) (before after : List ℕ)
    → receivers_of net e ≡ before ++ m ∷ after → list_all (λ j. nat_lt j m) before ≡ true
    → length (filter (λ j. j == k) before) ≤ cond (nat_lt k m && reads net k e) 1 0
once_before net m e k before after is below = cases (nat_lt k m) refl
  where
    once : length (filter (λ j. j == k) before) ≤ cond (reads net k e) 1 0
    once =
        let whole =
        ap length
        (sym (filter-append (λ j. j == k) before (m ∷ after)) ∙ ap (filter (λ j. j == k)) (sym is)
        ∙ receivers_once net k e) in
        let parts =
        length-append (filter (λ j. j == k) before) (filter (λ j. j == k) (m ∷ after)) in
        let single = one (reads net k e) in
        omega arith
      where
        one : (b : Bool) → length (cond b (k ∷ []) []) ≡ cond b 1 0
        one true = refl
        one false = refl

    cases : (b : Bool) → nat_lt k m ≡ b
        → length (filter (λ j. j == k) before) ≤ cond (b && reads net k e) 1 0
    cases true under = once
    cases false over = let none =
        ap length (none_above m k before below (ltb-false k m over)) in omega arith

-- ---- counts of the trace's deliveries

count_in_trace : (net : Network) (k : ℕ) (settled : Bool) (items : List TraceItem)
    → count_by (λ (p : Owed × Bool). is_way Env k p.0) (trace_deliveries net settled items)
    ≡ reads_in net k items
count_in_trace net k settled items =
    sym (length-filter (λ (p : Owed × Bool). is_way Env k p.0) (trace_deliveries net settled items))
    ∙ sym
    (length-map
    (filter (λ (p : Owed × Bool). is_way Env k p.0) (trace_deliveries net settled items))
    (λ (p : Owed × Bool). event_code p.0))
    ∙ ap length (env_ways_from net k settled items)

-- the deliveries of one event to these receivers
abbrev to_each : ℕ → ℕ → Bool → List ℕ → List (Owed × Bool)
to_each e code settled receivers =
    map (λ d. (d, settled))
    (map (λ m. record { from = Env; to = m; event = e; code = code }) receivers)

count_in_receivers : (k e code : ℕ) (settled : Bool) (receivers : List ℕ)
    → count_by (λ (p : Owed × Bool). is_way Env k p.0) (to_each e code settled receivers)
    ≡ length (filter (λ j. j == k) receivers)
count_in_receivers k e code settled receivers =
    let made : ℕ → Owed = λ m. record { from = Env; to = m; event = e; code = code } in
    let some = filter (λ j. j == k) receivers in
    sym (length-filter (λ (p : Owed × Bool). is_way Env k p.0) (to_each e code settled receivers))
    ∙ ap length
    (filter_of_map (λ (p : Owed × Bool). is_way Env k p.0) (λ d. (d, settled)) (map made receivers)
    ∙ ap (map (λ d. (d, settled))) (filter_of_map (is_way Env k) made receivers))
    ∙ length-map (map made some) (λ d. (d, settled))
    ∙ length-map some made

no_machine_in_receivers : (s k e code : ℕ) (settled : Bool) (receivers : List ℕ)
    → filter (λ (p : Owed × Bool). is_way (Sender s) k p.0) (to_each e code settled receivers) ≡ []
no_machine_in_receivers s k e code settled [] = refl
no_machine_in_receivers s k e code settled (m ∷ receivers) =
    no_machine_in_receivers s k e code settled receivers

-- all that stands before the delivery of an event to m is made
prefix_made : (net : Network) (journal : List Entry) (prefix : List TraceItem) (m e code : ℕ)
    (settled : Bool) (before after : List ℕ)
    → receivers_of net e ≡ before ++ m ∷ after
    → list_all (λ j. nat_lt j m) before ≡ true
    → ((k : ℕ) → reads_in net k prefix ≤ length (delivered Env k journal))
    → ((k : ℕ) → k < m → reads net k e ≡ true
    → reads_in net k prefix < length (delivered Env k journal))
    → (s : Party) (k : ℕ)
    → count_by (λ (p : Owed × Bool). is_way s k p.0)
    (trace_deliveries net false prefix ++ to_each e code settled before)
    ≤ length (delivered s k journal)
prefix_made net journal prefix m e code settled before after is below all earlier Env k =
    let sum =
    count_append (λ (p : Owed × Bool). is_way Env k p.0) (trace_deliveries net false prefix)
    (to_each e code settled before) in
    let left = count_in_trace net k false prefix in
    let right = count_in_receivers k e code settled before in
    let few = once_before net m e k before after is below in
    let here = all k in
    cases (nat_lt k m && reads net k e) refl few sum left right here
  where
    cases : (b : Bool) → (nat_lt k m && reads net k e) ≡ b
        → length (filter (λ j. j == k) before) ≤ cond b 1 0
        → count_by (λ (p : Owed × Bool). is_way Env k p.0)
        (trace_deliveries net false prefix ++ to_each e code settled before)
        ≡ count_by (λ (p : Owed × Bool). is_way Env k p.0) (trace_deliveries net false prefix)
        + count_by (λ (p : Owed × Bool). is_way Env k p.0) (to_each e code settled before)
        → count_by (λ (p : Owed × Bool). is_way Env k p.0) (trace_deliveries net false prefix)
        ≡ reads_in net k prefix
        → count_by (λ (p : Owed × Bool). is_way Env k p.0) (to_each e code settled before)
        ≡ length (filter (λ j. j == k) before)
        → reads_in net k prefix ≤ length (delivered Env k journal)
        → count_by (λ (p : Owed × Bool). is_way Env k p.0)
        (trace_deliveries net false prefix ++ to_each e code settled before)
        ≤ length (delivered Env k journal)
    cases true both few sum left right here =
        let parts = and_parts (nat_lt k m) (reads net k e) both in
        let under = earlier k (ltb-true k m parts.0) parts.1 in
        omega arith
    cases false both few sum left right here = omega arith
prefix_made net journal prefix m e code settled before after is below all earlier (Sender s) k =
    let none : filter (λ (p : Owed × Bool). is_way (Sender s) k p.0)
    (trace_deliveries net false prefix ++ to_each e code settled before) ≡ [] =
    filter-append (λ (p : Owed × Bool). is_way (Sender s) k p.0) (trace_deliveries net false prefix)
    (to_each e code settled before)
    ∙ ap
    (λ l.
    l ++ filter (λ (p : Owed × Bool). is_way (Sender s) k p.0) (to_each e code settled before))
    (no_machine_way net s k false prefix)
    ∙ no_machine_in_receivers s k e code settled before in
    let size =
    length-filter (λ (p : Owed × Bool). is_way (Sender s) k p.0)
    (trace_deliveries net false prefix ++ to_each e code settled before) in
    let nothing = ap length none in
    omega arith

-- Where all events before an item are delivered to all machines, and the item's event to each
-- machine before m that reads it,
-- but not to m, then its delivery to m is the first that is owed.
first_of_env_after : (net : Network) (journal : List Entry) (prefix rest : List TraceItem)
    (m e code : ℕ)
    → reads net m e ≡ true
    → ((k : ℕ) → reads_in net k prefix ≤ length (delivered Env k journal))
    → ((k : ℕ) → k < m → reads net k e ≡ true
    → reads_in net k prefix < length (delivered Env k journal))
    → length (delivered Env m journal) ≤ reads_in net m prefix
    → head_of (owed_by_env net (prefix ++ Event e code ∷ rest) journal)
    ≡ Some (record { from = Env; to = m; event = e; code = code }, settled_after false prefix)
first_of_env_after net journal prefix rest m e code read all earlier left =
    ap (λ l. head_of (unmade (λ (p : Owed × Bool). p.0) journal [] l)) shape
    ∙ first_unmade (λ (p : Owed × Bool). p.0) journal
    (trace_deliveries net false prefix ++ to_each e code settled split.0)
    (to_each e code settled split.1 ++ trace_deliveries net false rest) here
    (prefix_made net journal prefix m e code settled split.0 split.1 split.2 split.3 all earlier)
    (let sum =
    count_append (λ (p : Owed × Bool). is_way Env m p.0) (trace_deliveries net false prefix)
    (to_each e code settled split.0) in
    let some = count_in_trace net m false prefix in
    omega arith)
  where
    settled : Bool
    settled = settled_after false prefix

    here : Owed × Bool
    here = (record { from = Env; to = m; event = e; code = code }, settled)

    split : (before : List ℕ) × (after : List ℕ) × (receivers_of net e ≡ before ++ m ∷ after)
        × (list_all (λ j. nat_lt j m) before ≡ true)
    split = receivers_split net m e read

    parts : to_each e code settled (receivers_of net e)
        ≡ to_each e code settled split.0 ++ here ∷ to_each e code settled split.1
    parts =
        ap (to_each e code settled) split.2
        ∙ ap (map (λ d. (d, settled)))
        (map-append
        (λ k. let made : Owed = record { from = Env; to = k; event = e; code = code } in made)
        split.0 (m ∷ split.1))
        ∙ map-append (λ (d : Owed). (d, settled))
        (map (λ k. record { from = Env; to = k; event = e; code = code }) split.0)
        (map (λ k. record { from = Env; to = k; event = e; code = code }) (m ∷ split.1))

    shape : trace_deliveries net false (prefix ++ Event e code ∷ rest)
        ≡ (trace_deliveries net false prefix ++ to_each e code settled split.0) ++ here
        ∷ (to_each e code settled split.1 ++ trace_deliveries net false rest)
    shape =
        deliveries_after net false prefix (Event e code ∷ rest)
        ∙ ap
        (λ l. trace_deliveries net false prefix ++ (l ++ trace_deliveries net false rest)) parts
        ∙ ap (λ l. trace_deliveries net false prefix ++ l)
        (append_assoc (to_each e code settled split.0) (here ∷ to_each e code settled split.1)
        (trace_deliveries net false rest))
        ∙ sym
        (append_assoc (trace_deliveries net false prefix) (to_each e code settled split.0)
        (here ∷ (to_each e code settled split.1 ++ trace_deliveries net false rest)))

-- ---- by cursors

split_at : {X : Type 0} (xs : List X) (i : ℕ) (x : X) → slice_get xs i ≡ Some x
    → xs ≡ take i xs ++ x ∷ drop (i + 1) xs
split_at xs i x is =
    sym (take-append-drop i xs)
    ∙ ap (λ l. take i xs ++ l)
    (drop_more xs i x (slice_get_within xs i x is)
    ∙ ap (λ y. y ∷ drop (i + 1) xs) (get_or_from_slice_get xs i x x is))

reads_in_more : (net : Network) (k : ℕ) (trace : List TraceItem) (i e code : ℕ)
    → slice_get trace i ≡ Some (Event e code)
    → reads_in net k (take (i + 1) trace) ≡ reads_in net k (take i trace) + cond (reads net k e) 1 0
reads_in_more net k trace i e code is =
    ap (reads_in net k)
    (take_more trace i (Event e code) (slice_get_within trace i (Event e code) is)
    ∙ ap (λ y. take i trace ++ y ∷ [])
    (get_or_from_slice_get trace i (Event e code) (Event e code) is))
    ∙ ap (λ l. length (filter (λ (p : ℕ × ℕ). reads net k p.0) l))
    (filter_map-append event_of (take i trace) (Event e code ∷ []))
    ∙ ap length
    (filter-append (λ (p : ℕ × ℕ). reads net k p.0) (filter_map event_of (take i trace))
    ((e, code) ∷ []))
    ∙ length-append (filter (λ (p : ℕ × ℕ). reads net k p.0) (filter_map event_of (take i trace)))
    (cond (reads net k e) ((e, code) ∷ []) [])
    ∙ ap (λ n. reads_in net k (take i trace) + n) (one (reads net k e))
  where
    one : (b : Bool) → length {A = ℕ × ℕ} (cond b ((e, code) ∷ []) []) ≡ cond b 1 0
    one true = refl
    one false = refl

reads_past : (net : Network) (k : ℕ) (items : List TraceItem) → length net.machines ≤ k
    → reads_in net k items ≡ 0
reads_past net k items past = ap length (no_reader net items Env k [] past)

-- Each machine has a cursor: no more of what it reads stands before it than is delivered to it.
-- Where the cursor of m is the
-- least, m being the first of those that have it, and the item there is an event that m reads and
-- that isn't delivered to it,
-- this is the first delivery that the environment owes, and it is held back exactly where the item
-- before it is `settle`.
pub first_of_env_at : (net : Network) (trace : List TraceItem) (journal : List Entry)
    (cursor : ℕ → ℕ) (m e code : ℕ)
    → ((k i : ℕ) → k < length net.machines → i ≤ cursor k
    → reads_in net k (take i trace) ≤ length (delivered Env k journal))
    → ((k : ℕ) → k < length net.machines → cursor m ≤ cursor k)
    → ((k : ℕ) → k < m → cursor m < cursor k)
    → slice_get trace (cursor m) ≡ Some (Event e code)
    → reads net m e ≡ true
    → length (delivered Env m journal) ≤ reads_in net m (take (cursor m) trace)
    → head_of (owed_by_env net trace journal)
    ≡ Some (record { from = Env; to = m; event = e; code = code }, settled_at trace (cursor m))
first_of_env_at net trace journal cursor m e code made least first is read left =
    ap (λ l. head_of (owed_by_env net l journal)) (split_at trace (cursor m) (Event e code) is)
    ∙ first_of_env_after net journal (take (cursor m) trace)
    (drop (cursor m + 1) trace) m e code read all earlier left
    ∙ ap
    (λ b. let p : Owed × Bool =
    (record { from = Env; to = m; event = e; code = code }, b) in Some p)
    (settled_is trace (cursor m)
    (let within = slice_get_within trace (cursor m) (Event e code) is in omega arith))
  where
    upto_cursor : (k i : ℕ) → (k < length net.machines → i ≤ cursor k)
        → reads_in net k (take i trace) ≤ length (delivered Env k journal)
    upto_cursor k i within = elim (cases_lt k (length net.machines)) [
      | inl below ↦ made k i below (within below)
      | inr past ↦ (let none = reads_past net k (take i trace) past in omega arith)
    ]

    all : (k : ℕ) → reads_in net k (take (cursor m) trace) ≤ length (delivered Env k journal)
    all k = upto_cursor k (cursor m) (least k)

    earlier : (k : ℕ) → k < m → reads net k e ≡ true
        → reads_in net k (take (cursor m) trace) < length (delivered Env k journal)
    earlier k under reader =
        let one = reads_in_more net k trace (cursor m) e code is
        ∙ ap (λ b. reads_in net k (take (cursor m) trace) + cond b 1 0) reader in
        let before = first k under in
        let here = upto_cursor k (cursor m + 1) (λ below. omega arith) in
        omega arith

-- where all that each machine reads is delivered to it, the environment owes nothing
pub env_owes_nothing : (net : Network) (trace : List TraceItem) (journal : List Entry)
    → ((k : ℕ) → k < length net.machines → reads_in net k trace ≤ length (delivered Env k journal))
    → owed_by_env net trace journal ≡ []
env_owes_nothing net trace journal made =
    all_made (λ (p : Owed × Bool). p.0) journal [] (trace_deliveries net false trace) all
  where
    all : (s : Party) (k : ℕ)
        → count_by (λ (p : Owed × Bool). is_way s k p.0) (trace_deliveries net false trace)
        ≤ length (delivered s k journal)
    all Env k =
        let count = count_in_trace net k false trace in
        elim (cases_lt k (length net.machines)) [
          | inl below ↦ (let few = made k below in omega arith)
          | inr past ↦ (let none = reads_past net k trace past in omega arith)
        ]
    all (Sender s) k =
        let none = ap length (no_machine_way net s k false trace) in
        let size =
        length-filter (λ (p : Owed × Bool). is_way (Sender s) k p.0)
        (trace_deliveries net false trace) in
        omega arith
