-- The clocks after one entry more.
use Rattle.std.specs.Prelude.{◌≡◌, ℕ, ◌+◌, ◌<◌, ◌≤◌, max, Bool, true, false, cond, ◌&&◌, ◌==◌, nat_lt, List, ◌∷◌, ◌++◌, map, filter, flat_map, length, drop, slice_get, Some, []}
use Rattle.std.proofs.Common.{inl, inr, refl, sym, ap, ◌∙◌, subst, arith, get_or, set, length-append}
use Rattle.std.proofs.lemmas.List.{append-nil, map-append, drop-drop, length-drop, drop-append-le, length_push, length-set, get_or-set_other, get_or-set_same}
use Rattle.std.proofs.lemmas.List.Concat.{flat_map-append}
use Rattle.std.proofs.lemmas.List.Elements.{filter_map-append, filter-append}
use Rattle.std.proofs.lemmas.Bool.{eq-eqb, ne_eqb, eqb-true, cases_eq, ltb-true, and_parts}
use Rattle.std.proofs.lemmas.Option.{get_or_from_slice_get}
use Rattle.std.proofs.Math.Nat.{max-zero}
use Rattle.polis_base.specs.Lists.{upto}
use Rattle.transition_table.specs.declared.decl.Party.{Party}
use Rattle.transition_table.specs.declared.decl.Party.TheVariants.{Env, Machine as Sender}
use Rattle.transition_table.specs.declared.network.Network.{Network}
use Rattle.journals.specs.declared.entry.Entry.{Entry}
use Rattle.journals.specs.declared.entry.Entry.TheVariants.{Dep, Rea}
use Rattle.journals.specs.Journals.{FitsNetwork, IsJournal, is_event_code, is_firing_of, delivery, delivered}
use Rattle.journals.specs.Moved.{machine_of}
use Rattle.journals.proofs.MomentsAfter.{get_or_table, set_table}
use Rattle.net_core.specs.declared.clocks.Cursor.{Cursor}
use Rattle.net_core.specs.declared.clocks.Clocks.{Clocks}
use Rattle.net_core.specs.inner.Clocks.{firings_of, cursor_at, with_cursor, IsCursor, AreClocks, IsBacked, one_taken, clocks_after, cursors_moved, firings_after}
use Rattle.journals.specs.Stamps.{greatest, stamps_at, once_each, stamps_sent}
use Rattle.journals.specs.declared.stamped.Stamped.{Stamped}
use Rattle.journals.specs.Logs.{entries, stamped, of_machine}
use Rattle.journals.proofs.LeastStamps.{greatest_both}
use Rattle.journals.proofs.CursorsAfter.{machine_within}
use Rattle.journals.proofs.Legal.{fitting_more}
use Rattle.journals.proofs.StampSteps.{entries_more}

-- ---- entries that fit

pub sender_within : (net : Network) (s m e c : ℕ) → FitsNetwork net (Dep (Sender s) m e c)
    → s < length net.machines
sender_within net s m e c h =
    ltb-true s (length net.machines)
    (and_parts (nat_lt s (length net.machines)) (nat_lt m (length net.machines))
    (and_parts (nat_lt s (length net.machines) && nat_lt m (length net.machines))
    (is_event_code net e c) h).0).0

pub firings_fit : (net : Network) (s : ℕ) (done : List Stamped) → IsJournal net (entries done)
    → IsJournal net (entries (firings_of done s))
firings_fit net s [] h = h
firings_fit net s (x ∷ done) h = cases (is_firing_of s x.entry) h.0 (firings_fit net s done h.1)
  where
    cases : (b : Bool) → FitsNetwork net x.entry → IsJournal net (entries (firings_of done s))
        → IsJournal net (entries (cond b (x ∷ firings_of done s) (firings_of done s)))
    cases true f g = (f, g)
    cases false f g = g

-- ---- clocks

pub clock_at : (net : Network) (done : List Stamped) (clocks : List ℕ) (m v : ℕ)
    → m < length net.machines → clocks
    ≡ map (λ k. greatest (stamps_at k done)) (upto (length net.machines))
    → slice_get clocks m ≡ Some v → v ≡ greatest (stamps_at m done)
clock_at net done clocks m v below are at =
    sym (get_or_from_slice_get clocks m v v at) ∙ ap (λ (l : List ℕ). get_or l m v) are
    ∙ get_or_table (λ k. greatest (stamps_at k done)) (length net.machines) m v below

at_more : (m : ℕ) (done : List Stamped) (x : Stamped) (b : Bool) → (machine_of x.entry == m) ≡ b
    → stamps_at m (done ++ x ∷ []) ≡ stamps_at m done ++ cond b (x.stamp ∷ []) []
at_more m done x b is =
    let own : List Stamped = filter (λ p. of_machine m p.entry) done in
    ap (map (λ (p : Stamped). p.stamp))
    (filter-append (λ (p : Stamped). of_machine m p.entry) done (x ∷ [])
    ∙ ap (λ c. own ++ cond c (x ∷ []) []) is)
    ∙ map-append (λ (p : Stamped). p.stamp) own (cond b (x ∷ []) [])
    ∙ cases b
  where
    cases : (b : Bool) → stamps_at m done ++ map (λ (p : Stamped). p.stamp) (cond b (x ∷ []) [])
        ≡ stamps_at m done ++ cond b (x.stamp ∷ []) []
    cases true = refl
    cases false = refl

clocks_more : (n : ℕ) (done : List Stamped) (x : Stamped) (clocks : List ℕ) → machine_of x.entry < n
    → clocks ≡ map (λ k. greatest (stamps_at k done)) (upto n)
    → clocks_after (machine_of x.entry) x.stamp clocks
    ≡ map (λ k. greatest (stamps_at k (done ++ x ∷ []))) (upto n)
clocks_more n done x clocks below are =
    let m : ℕ = machine_of x.entry in
    let f : ℕ → ℕ = λ k. greatest (stamps_at k done) in
    let g : ℕ → ℕ = λ k. greatest (stamps_at k (done ++ x ∷ [])) in
    let here : g m ≡ max (f m) x.stamp =
    ap greatest (at_more m done x true (eq-eqb m m refl))
    ∙ greatest_both (stamps_at m done) (x.stamp ∷ []) ∙ ap (max (f m)) (max-zero x.stamp) in
    ap (clocks_after m x.stamp) are
    ∙ ap (λ v. set (map f (upto n)) m (max v x.stamp)) (get_or_table f n m 0 below)
    ∙ set_table f g n m (max (f m) x.stamp) below here
    (λ k other inside.
    ap greatest (at_more k done x false (ne_eqb m k (λ e. other (sym e)))
    ∙ append-nil (stamps_at k done)))

-- ---- firings

pub firings_more : (done : List Stamped) (x : Stamped) (s : ℕ)
    → firings_of (done ++ x ∷ []) s ≡ firings_of done s ++ firings_of (x ∷ []) s
firings_more done x s = filter-append (λ (p : Stamped). is_firing_of s p.entry) done (x ∷ [])

no_more : (done : List Stamped) (x : Stamped) (s : ℕ) → is_firing_of s x.entry ≡ false
    → firings_of (done ++ x ∷ []) s ≡ firings_of done s
no_more done x s h = firings_more done x s ∙ ap (λ b. firings_of done s ++ cond b (x ∷ []) []) h
    ∙ append-nil (firings_of done s)

lists_more : (n : ℕ) (done : List Stamped) (entry : Entry) (t : ℕ) (firings : List (List Stamped))
    → machine_of entry < n → firings ≡ map (firings_of done) (upto n)
    → firings_after entry t firings ≡ map (firings_of (done ++ stamped t entry ∷ [])) (upto n)
lists_more n done (Dep s m e c) t firings below are =
    are ∙ (λ i. map (λ k. sym (no_more done (stamped t (Dep s m e c)) k refl) i) (upto n))
lists_more n done (Rea m s o) t firings below are = cases o.fires refl
  where
    cases : (b : Bool) → o.fires ≡ b
        → cond b (set firings m (get_or firings m [] ++ stamped t (Rea m s o) ∷ [])) firings
        ≡ map (firings_of (done ++ stamped t (Rea m s o) ∷ [])) (upto n)
    cases false idle =
        are ∙ (λ i. map
        (λ k. sym (no_more done (stamped t (Rea m s o)) k (off (m == k) o.fires idle)) i) (upto n))
      where
        off : (a b : Bool) → b ≡ false → (a && b) ≡ false
        off true b h = h
        off false b h = refl
    cases true fires =
        let x : Stamped = stamped t (Rea m s o) in
        let here : is_firing_of m x.entry ≡ true =
        ap (λ b. b && o.fires) (eq-eqb m m refl) ∙ fires in
        ap (λ (l : List (List Stamped)). set l m (get_or l m [] ++ x ∷ [])) are
        ∙ ap (λ l. set (map (firings_of done) (upto n)) m (l ++ x ∷ []))
        (get_or_table (firings_of done) n m [] below)
        ∙ set_table (firings_of done) (firings_of (done ++ x ∷ [])) n m
        (firings_of done m ++ x ∷ []) below
        (firings_more done x m ∙ ap (λ b. firings_of done m ++ cond b (x ∷ []) []) here)
        (λ k other inside. no_more done x k
        (ap (λ b. b && o.fires) (ne_eqb m k (λ e. other (sym e)))))

-- ---- cursors

pub sent_more : (net : Network) (s m : ℕ) (done : List Stamped) (x : Stamped)
    → stamps_sent net s m (done ++ x ∷ [])
    ≡ stamps_sent net s m done ++ flat_map (once_each net m) (firings_of (x ∷ []) s)
sent_more net s m done x = ap (flat_map (once_each net m)) (firings_more done x s)
    ∙ flat_map-append (once_each net m) (firings_of done s) (firings_of (x ∷ []) s)

pub delivered_more : (s : Party) (m : ℕ) (done : List Stamped) (x : Stamped)
    → delivered s m (entries (done ++ x ∷ []))
    ≡ delivered s m (entries done) ++ delivered s m (x.entry ∷ [])
delivered_more s m done x = ap (delivered s m) (entries_more done x)
    ∙ filter_map-append (delivery s m) (entries done) (x.entry ∷ [])

-- the entry delivers nothing from s to m
cursor_more : (net : Network) (done : List Stamped) (x : Stamped) (s m : ℕ) (cursor : Cursor)
    → IsBacked net done → delivered (Sender s) m (x.entry ∷ []) ≡ [] → IsCursor net done s m cursor
    → IsCursor net (done ++ x ∷ []) s m cursor
cursor_more net done x s m cursor backed none h =
    let own : List Stamped = firings_of done s in
    let more : List Stamped = firings_of (x ∷ []) s in
    let came : List Entry = entries done in
    let within = h.within in
    let few = h.few in
    let given = h.given in
    let size = length-append own more in
    let longer = length_push done x in
    let rest : flat_map (once_each net m) (drop cursor.firing (firings_of (done ++ x ∷ []) s))
    ≡ flat_map (once_each net m) (drop cursor.firing own) ++ flat_map (once_each net m) more =
    ap (λ l. flat_map (once_each net m) (drop cursor.firing l)) (firings_more done x s)
    ∙ ap (flat_map (once_each net m)) (drop-append-le cursor.firing own more within)
    ∙ flat_map-append (once_each net m) (drop cursor.firing own) more in
    let size_rest =
    length-append (flat_map (once_each net m) (drop cursor.firing own))
    (flat_map (once_each net m) more) in
    let same : delivered (Sender s) m (entries (done ++ x ∷ [])) ≡ delivered (Sender s) m came =
    delivered_more (Sender s) m done x ∙ ap (λ l. delivered (Sender s) m came ++ l) none
    ∙ append-nil (delivered (Sender s) m came) in
    record {
      within = rw (firings_more done x s) (omega arith);
      given = rw rest (omega arith);
      few = rw longer (omega arith);
      left_is = ap (drop cursor.taken) rest
          ∙ drop-append-le cursor.taken (flat_map (once_each net m) (drop cursor.firing own))
          (flat_map (once_each net m) more) given
          ∙ ap (λ l. l ++ flat_map (once_each net m) more) h.left_is
          ∙ sym (ap (λ l. drop (length l) (stamps_sent net s m (done ++ x ∷ []))) same
          ∙ ap (drop (length (delivered (Sender s) m came))) (sent_more net s m done x)
          ∙ drop-append-le (length (delivered (Sender s) m came)) (stamps_sent net s m done)
          (flat_map (once_each net m) more) (backed s m));
    }

own_delivery : (s m e c : ℕ) → delivered (Sender s) m (Dep (Sender s) m e c ∷ []) ≡ (e, c) ∷ []
own_delivery s m e c = rw (eq-eqb s s refl, eq-eqb m m refl) refl

-- the entry delivers from s to m
cursor_taken : (net : Network) (done : List Stamped) (s m e c t : ℕ) (cursor : Cursor)
    → IsBacked net (done ++ stamped t (Dep (Sender s) m e c) ∷ []) → IsCursor net done s m cursor
    → IsCursor net (done ++ stamped t (Dep (Sender s) m e c) ∷ []) s m (one_taken cursor)
cursor_taken net done s m e c t cursor backed h =
    let x : Stamped = stamped t (Dep (Sender s) m e c) in
    let own : List Stamped = firings_of done s in
    let came : List Entry = entries done in
    let all : List ℕ = flat_map (once_each net m) (drop cursor.firing own) in
    let same : firings_of (done ++ x ∷ []) s ≡ own = no_more done x s refl in
    let sent : stamps_sent net s m (done ++ x ∷ []) ≡ stamps_sent net s m done =
    ap (flat_map (once_each net m)) same in
    let count : length (delivered (Sender s) m (entries (done ++ x ∷ [])))
    ≡ length (delivered (Sender s) m came) + 1 =
    ap length (delivered_more (Sender s) m done x
    ∙ ap (λ l. delivered (Sender s) m came ++ l) (own_delivery s m e c))
    ∙ length_push (delivered (Sender s) m came) (e, c) in
    let within = h.within in
    let few = h.few in
    let given = h.given in
    let longer = length_push done x in
    let enough : length (delivered (Sender s) m came) + 1 ≤ length (stamps_sent net s m done) =
    subst (λ (l : List ℕ). length (delivered (Sender s) m came) + 1 ≤ length l) sent
    (subst (λ (n : ℕ). n ≤ length (stamps_sent net s m (done ++ x ∷ []))) count (backed s m)) in
    let left_size = length-drop cursor.taken all in
    let owed_size = length-drop (length (delivered (Sender s) m came)) (stamps_sent net s m done) in
    let sizes = ap length h.left_is in
    record {
      within = rw same within;
      given = rw same (omega arith);
      few = rw longer (omega arith);
      left_is = ap (λ l. drop (cursor.taken + 1)
          (flat_map (once_each net m) (drop cursor.firing l))) same
          ∙ sym (drop-drop 1 cursor.taken all)
          ∙ ap (drop 1) h.left_is
          ∙ drop-drop 1 (length (delivered (Sender s) m came)) (stamps_sent net s m done)
          ∙ sym (ap (λ n. drop n (stamps_sent net s m (done ++ x ∷ []))) count
          ∙ ap (drop (length (delivered (Sender s) m came) + 1)) sent);
    }

-- ---- a cursor in its place

cursor_put : (cursors : List (List Cursor)) (s m : ℕ) (cursor : Cursor) → s < length cursors
    → m < length (get_or cursors s []) → cursor_at (with_cursor cursors s m cursor) s m ≡ cursor
cursor_put cursors s m cursor row column =
    ap (λ (l : List Cursor). get_or l m (record { firing = 0; taken = 0 }))
    (get_or-set_same cursors s (set (get_or cursors s []) m cursor) [] row)
    ∙ get_or-set_same (get_or cursors s []) m cursor (record { firing = 0; taken = 0 }) column

cursor_beside : (cursors : List (List Cursor)) (s m k : ℕ) (cursor : Cursor) → s < length cursors
    → (k ≡ m → ⊥) → cursor_at (with_cursor cursors s m cursor) s k ≡ cursor_at cursors s k
cursor_beside cursors s m k cursor row other =
    ap (λ (l : List Cursor). get_or l k (record { firing = 0; taken = 0 }))
    (get_or-set_same cursors s (set (get_or cursors s []) m cursor) [] row)
    ∙ get_or-set_other (get_or cursors s []) m k cursor (record { firing = 0; taken = 0 }) other

cursor_away : (cursors : List (List Cursor)) (s m j k : ℕ) (cursor : Cursor) → (j ≡ s → ⊥)
    → cursor_at (with_cursor cursors s m cursor) j k ≡ cursor_at cursors j k
cursor_away cursors s m j k cursor other =
    ap (λ (l : List Cursor). get_or l k (record { firing = 0; taken = 0 }))
    (get_or-set_other cursors s j (set (get_or cursors s []) m cursor) [] other)

pub columns_kept : (cursors : List (List Cursor)) (s m j n : ℕ) (cursor : Cursor)
    → s < length cursors → length (get_or cursors j []) ≡ n
    → length (get_or (with_cursor cursors s m cursor) j []) ≡ n
columns_kept cursors s m j n cursor row size =
    elim (cases_eq j s) [
      | inl same ↦
          ap (λ (i : ℕ). length (get_or (with_cursor cursors s m cursor) i [])) same
          ∙ ap length (get_or-set_same cursors s (set (get_or cursors s []) m cursor) [] row)
          ∙ length-set (get_or cursors s []) m cursor
          ∙ ap (λ (i : ℕ). length (get_or cursors i [])) (sym same) ∙ size
      | inr other ↦ ap length
          (get_or-set_other cursors s j (set (get_or cursors s []) m cursor) [] other) ∙ size
    ]

-- a table in which one cursor is another
pub cursors_with : (net : Network) (n : ℕ) (old new : List Stamped) (cursors : List (List Cursor))
    (s m : ℕ) (cursor : Cursor) → s < length cursors → m < length (get_or cursors s [])
    → IsCursor net new s m cursor
    → ((j k : ℕ) → ((j ≡ s) × (k ≡ m) → ⊥) → IsCursor net old j k (cursor_at cursors j k)
    → IsCursor net new j k (cursor_at cursors j k))
    → ((j k : ℕ) → j < n → k < n → IsCursor net old j k (cursor_at cursors j k))
    → (j k : ℕ) → j < n → k < n
    → IsCursor net new j k (cursor_at (with_cursor cursors s m cursor) j k)
cursors_with net n old new cursors s m cursor row column here others are j k inside within =
    elim (cases_eq j s) [
      | inl same ↦
          elim (cases_eq k m) [
            | inl own ↦
                subst (λ (i : ℕ). IsCursor net new i k
                (cursor_at (with_cursor cursors s m cursor) i k)) (sym same)
                (subst (λ (i : ℕ). IsCursor net new s i
                (cursor_at (with_cursor cursors s m cursor) s i)) (sym own)
                (subst (IsCursor net new s m) (sym (cursor_put cursors s m cursor row column))
                here))
            | inr other ↦
                subst (IsCursor net new j k)
                (sym (ap (λ (i : ℕ). cursor_at (with_cursor cursors s m cursor) i k) same
                ∙ cursor_beside cursors s m k cursor row other
                ∙ ap (λ (i : ℕ). cursor_at cursors i k) (sym same)))
                (others j k (λ e. other e.1) (are j k inside within))
          ]
      | inr other ↦ subst (IsCursor net new j k) (sym (cursor_away cursors s m j k cursor other))
          (others j k (λ e. other e.0) (are j k inside within))
    ]

-- ---- all clocks

none_delivered : (s m k : ℕ) (to e c : ℕ) → ((s ≡ k) × (m ≡ to) → ⊥)
    → delivered (Sender s) m (Dep (Sender k) to e c ∷ []) ≡ []
none_delivered s m k to e c other = cases (k == s) refl (to == m) refl
  where
    cases : (a : Bool) → (k == s) ≡ a → (b : Bool) → (to == m) ≡ b
        → delivered (Sender s) m (Dep (Sender k) to e c ∷ []) ≡ []
    cases true x true y = absurd (other (sym (eqb-true k s x), sym (eqb-true to m y)))
    cases true x false y = rw (x, y) refl
    cases false x b y = rw x refl

cursors_more : (net : Network) (done : List Stamped) (entry : Entry) (t : ℕ) (c : Clocks)
    → FitsNetwork net entry → AreClocks net done c → IsBacked net done
    → IsBacked net (done ++ stamped t entry ∷ [])
    → (j k : ℕ) → j < length net.machines → k < length net.machines
    → IsCursor net (done ++ stamped t entry ∷ []) j k
    (cursor_at (cursors_moved entry c.cursors) j k)
cursors_more net done (Dep (Sender s) m e x) t c fits h backed more =
    let rows = h.rows in
    let sender = sender_within net s m e x fits in
    let receiver : m < length net.machines = machine_within net (Dep (Sender s) m e x) fits in
    let columns = h.columns s sender in
    cursors_with net (length net.machines) done (done ++ stamped t (Dep (Sender s) m e x) ∷ [])
    c.cursors s m (one_taken (cursor_at c.cursors s m)) (omega arith) (omega arith)
    (cursor_taken net done s m e x t (cursor_at c.cursors s m) more
    (h.cursors_are s m sender receiver))
    (λ j k other. cursor_more net done (stamped t (Dep (Sender s) m e x)) j k
    (cursor_at c.cursors j k) backed (none_delivered j k s m e x other))
    h.cursors_are
cursors_more net done (Dep Env m e x) t c fits h backed more =
    λ j k inside within. cursor_more net done (stamped t (Dep Env m e x)) j k
    (cursor_at c.cursors j k) backed refl (h.cursors_are j k inside within)
cursors_more net done (Rea m s o) t c fits h backed more =
    λ j k inside within. cursor_more net done (stamped t (Rea m s o)) j k (cursor_at c.cursors j k)
    backed refl (h.cursors_are j k inside within)

rows_kept : (entry : Entry) (cursors : List (List Cursor))
    → length (cursors_moved entry cursors) ≡ length cursors
rows_kept (Dep (Sender s) m e x) cursors =
    length-set cursors s (set (get_or cursors s []) m (one_taken (cursor_at cursors s m)))
rows_kept (Dep Env m e x) cursors = refl
rows_kept (Rea m s o) cursors = refl

columns_more : (net : Network) (entry : Entry) (cursors : List (List Cursor)) (j n : ℕ)
    → FitsNetwork net entry → length cursors ≡ length net.machines
    → length (get_or cursors j []) ≡ n → length (get_or (cursors_moved entry cursors) j []) ≡ n
columns_more net (Dep (Sender s) m e x) cursors j n fits rows h = let sender =
    sender_within net s m e x fits in
    columns_kept cursors s m j n (one_taken (cursor_at cursors s m)) (omega arith) h
columns_more net (Dep Env m e x) cursors j n fits rows h = h
columns_more net (Rea m s o) cursors j n fits rows h = h

pub all_taken : (net : Network) (done : List Stamped) (entry : Entry) (t : ℕ) (c new : Clocks)
    → FitsNetwork net entry → AreClocks net done c → IsBacked net done
    → IsBacked net (done ++ stamped t entry ∷ [])
    → new.clocks ≡ clocks_after (machine_of entry) t c.clocks
    → new.firings ≡ firings_after entry t c.firings
    → new.cursors ≡ cursors_moved entry c.cursors
    → AreClocks net (done ++ stamped t entry ∷ []) new
all_taken net done entry t c new fits h backed more clocks firings cursors =
    let n : ℕ = length net.machines in
    let below : machine_of entry < n = machine_within net entry fits in
    record {
      fitting = subst (IsJournal net) (sym (entries_more done (stamped t entry)))
          (fitting_more net (entries done) entry h.fitting fits);
      clocks_are = clocks ∙ clocks_more n done (stamped t entry) c.clocks below h.clocks_are;
      firings_are = firings ∙ lists_more n done entry t c.firings below h.firings_are;
      rows = ap length cursors ∙ rows_kept entry c.cursors ∙ h.rows;
      columns = λ j inside. ap (λ (l : List (List Cursor)). length (get_or l j [])) cursors
          ∙ columns_more net entry c.cursors j n fits h.rows (h.columns j inside);
      cursors_are = λ j k inside within.
          subst (λ (l : List (List Cursor)). IsCursor net (done ++ stamped t entry ∷ []) j k
          (cursor_at l j k)) (sym cursors)
          (cursors_more net done entry t c fits h backed more j k inside within);
    }
