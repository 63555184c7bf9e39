-- A machine's bits in the words of the events' readers are the items that it reads.
use Rattle.std.specs.Prelude.{◌≡◌, ℕ, zero, suc, ◌+◌, ◌<◌, ◌≤◌, Bool, true, false, cond, not, ◌&&◌, ◌==◌, nat_lt, nat_le, List, [], ◌∷◌, filter, length, drop, slice_get, find, Option, Some, None, option_map, unwrap_or, IsTrue}
use Rattle.std.specs.List.{list_all, prefix_len}
use Rattle.std.specs.Int.{bit_at}
use Rattle.std.proofs.Common.{refl, sym, ap, ◌∙◌, arith, set, get_or}
use Rattle.std.proofs.lemmas.Bool.{and_parts, lt-ltb, ltb-true}
use Rattle.polis_base.specs.Lists.{upto}
use Rattle.transition_table.specs.NetworkFacts.{event_values}
use Rattle.transition_table.specs.declared.decl.EventDecl.{EventDecl}
use Rattle.transition_table.specs.declared.decl.Party.TheVariants.{Env, Machine as Sender}
use Rattle.transition_table.specs.declared.network.Network.{Network}
use Rattle.journals.specs.declared.entry.Entry.{Entry}
use Rattle.journals.specs.declared.entry.Entry.TheVariants.{Dep, Rea}
use Rattle.journals.specs.declared.entry.TraceItem.{TraceItem}
use Rattle.journals.specs.declared.entry.TraceItem.TheVariants.{Event, Settle}
use Rattle.journals.specs.Journals.{FitsNetwork, IsTrace, reads, is_event_code, is_trace_item, same_party}
use Rattle.journals.specs.Cursors.{is_read, cursors_after}
use Rattle.journals.specs.Schedules.{receivers_of}
use Rattle.net_core.specs.Marks.{is_marked}
use Rattle.net_core.specs.inner.Marks.{marked_after, lands_below}
use Rattle.net_core.specs.Readers.{AreReaders}
use Rattle.net_core.proofs.Bitsets.{find_none, none_is, one_is}
use Rattle.net_core.proofs.ReceiversOf.{receivers_are}
use Rattle.journals.proofs.CursorsAfter.{machine_within}
use Rattle.polis_base.proofs.Places.{some_at}
use Rattle.polis_base.specs.Sets.{members}

-- two tests that the same numbers pass agree
same_test : (p q : ℕ → Bool) (m a b : ℕ) → m < a → m < b → filter p (upto a) ≡ filter q (upto b)
    → p m ≡ q m
same_test p q m a b below within same = cases (p m) (q m) refl refl
  where
    differ : (r t : ℕ → Bool) (c d : ℕ) → m < c → filter r (upto c) ≡ filter t (upto d)
        → r m ≡ true → t m ≡ false → ⊥
    differ r t c d inside same is other =
        let found = one_is r m c inside is in
        let none = find_none (λ k. k == m) (filter t (upto d)) (none_is t m d other) in
        let both : Some m ≡ None = sym found ∙ ap (find (λ k. k == m)) same ∙ none in
        cc

    cases : (x y : Bool) → p m ≡ x → q m ≡ y → p m ≡ q m
    cases true true is other = is ∙ sym other
    cases false false is other = is ∙ sym other
    cases true false is other = absurd (differ p q a b below same is other)
    cases false true is other = absurd (differ q p b a within (sym same) other is)

-- the readers of an event by its number
receivers_by : (net : Network) (e : ℕ) → e < length net.events
    → receivers_of net e ≡ filter (λ k. reads net k e) (upto (length net.machines))
receivers_by net e within =
    let found = some_at net.events e within in
    let event : EventDecl = found.0 in
    let at : slice_get net.events e ≡ Some event = found.1 in
    ap (λ (o : Option EventDecl). unwrap_or (option_map (λ event. event.receivers) o) []) at
    ∙ receivers_are net e event at

marked_is : (net : Network) (sets : List ℕ) (m : ℕ) (item : TraceItem) → AreReaders net sets
    → m < length net.machines → is_trace_item net item ≡ true
    → is_marked sets m item ≡ is_read net m item
unfolding members
marked_is net sets m Settle readers below fits = refl
marked_is net sets m (Event e code) readers below fits =
    let all = and_parts (is_event_code net e code)
    (unwrap_or (option_map (λ event. same_party event.sender Env) (slice_get net.events e)) false)
    fits in
    let coded = and_parts (nat_lt e (length net.events) && nat_le 1 code)
    (nat_le code (event_values net.domains net.events e)) all.0 in
    let own = and_parts (nat_lt e (length net.events)) (nat_le 1 code) coded.0 in
    let within : e < length net.events = ltb-true e (length net.events) own.0 in
    let long : length sets ≡ length net.events = readers.long in
    let few : length net.machines ≤ 64 = net.few_machines in
    ap (λ b. b && bit_at (get_or sets e 0) m == 1) (lt-ltb e (length sets) (omega arith))
    ∙ same_test (λ k. bit_at (get_or sets e 0) k == 1) (λ k. reads net k e) m 64
    (length net.machines) (omega arith) below (readers.are e within ∙ receivers_by net e within)

-- ---- the items before the next that passes

same_prefix : {X : Type 0} (p q test : X → Bool) → ((x : X) → test x ≡ true → p x ≡ q x)
    → (xs : List X) → list_all test xs ≡ true → prefix_len p xs ≡ prefix_len q xs
same_prefix p q test same [] h = refl
same_prefix p q test same (x ∷ xs) h =
    let parts = and_parts (test x) (list_all test xs) h in
    ap (λ b. cond b (1 + prefix_len p xs) 0) (same x parts.0)
    ∙ ap (λ n. cond (q x) (1 + n) 0) (same_prefix p q test same xs parts.1)

all_of_drop : {X : Type 0} (test : X → Bool) (k : ℕ) (xs : List X) → list_all test xs ≡ true
    → list_all test (drop k xs) ≡ true
all_of_drop test zero xs h = h
all_of_drop test (suc k) [] h = refl
all_of_drop test (suc k) (x ∷ xs) h =
    all_of_drop test k xs (and_parts (test x) (list_all test xs) h).1

pub prefix_marked : (net : Network) (sets : List ℕ) (trace : List TraceItem) (m k : ℕ)
    → AreReaders net sets → IsTrace net trace → m < length net.machines
    → prefix_len (λ item. not (is_marked sets m item)) (drop k trace)
    ≡ prefix_len (λ item. not (is_read net m item)) (drop k trace)
prefix_marked net sets trace m k readers fits below =
    same_prefix (λ item. not (is_marked sets m item)) (λ item. not (is_read net m item))
    (is_trace_item net) (λ item fit. ap not (marked_is net sets m item readers below fit))
    (drop k trace) (all_of_drop (is_trace_item net) k trace fits)

-- ---- the cursors

pub marked_cursors : (net : Network) (sets : List ℕ) (trace : List TraceItem) (entry : Entry)
    (cursors : List ℕ) → AreReaders net sets → IsTrace net trace → FitsNetwork net entry
    → marked_after sets trace entry cursors ≡ cursors_after net trace entry cursors
marked_cursors net sets trace (Dep Env m e c) cursors readers fits entry =
    let place = get_or cursors m 0 in
    ap (λ n. set cursors m (cond (nat_lt place (length trace)) (place + 1 + n) place))
    (prefix_marked net sets trace m (place + 1) readers fits
    (machine_within net (Dep Env m e c) entry))
marked_cursors net sets trace (Dep (Sender s) m e c) cursors readers fits entry = refl
marked_cursors net sets trace (Rea m s o) cursors readers fits entry = refl

pub lands_in : (net : Network) (entry : Entry) (n : ℕ) → FitsNetwork net entry
    → n ≡ length net.machines → IsTrue (lands_below n entry)
lands_in net (Dep Env m e c) n h is =
    let below = machine_within net (Dep Env m e c) h in
    lt-ltb m n (omega arith)
lands_in net (Dep (Sender s) m e c) n h is =
    rw is
    (and_parts (nat_lt s (length net.machines) && nat_lt m (length net.machines))
    (is_event_code net e c) h).0
lands_in net (Rea m s o) n h is = refl
