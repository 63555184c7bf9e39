-- The least ts are Rising, and no Rising list is smaller.
use Rattle.std.specs.Prelude.{◌≡◌, ℕ, zero, suc, ◌+◌, ◌<◌, ◌≤◌, max, Bool, true, false, cond, ◌&&◌, nat_lt, nat_le, List, [], ◌∷◌, ◌++◌, filter, flat_map, length, take, drop, replicate, get_or, ⊤}
use Rattle.std.specs.List.{list_all}
use Rattle.std.proofs.Common.{refl, ap, ◌∙◌, subst, arith, length-append}
use Rattle.std.proofs.lemmas.List.{map-append}
use Rattle.std.proofs.lemmas.Bool.{false≢true, leb-true, ltb-true, le-leb, lt-ltb, and_parts, and_from}
use Rattle.std.proofs.Math.Nat.{le-max_left, le-max_right, max-le}
use Rattle.polis_base.specs.Lists.{Begins}
use Rattle.transition_table.specs.declared.decl.Party.TheVariants.{Env, Machine as Sender}
use Rattle.transition_table.specs.declared.network.Network.{Network}
use Rattle.journals.specs.declared.entry.Entry.{Entry}
use Rattle.journals.specs.declared.entry.Entry.TheVariants.{Dep, Rea}
use Rattle.journals.specs.declared.stamped.Stamped.{Stamped}
use Rattle.journals.specs.Journals.{reads, is_firing_of, emissions, delivered}
use Rattle.journals.specs.Logs.{entries, max_stamp, of_machine, stamped, stamps as stamps_of}
use Rattle.journals.specs.Moved.{machine_of}
use Rattle.journals.specs.Stamps.{greatest, stamps_at, once_each, stamps_sent, stamps_owed, origin, stamps_below, is_above, rises_after, least_stamp, least_after, least}
use Rattle.journals.specs.StampLaws.{LeastIsRising, NoneIsSmaller, LeastAreAsMany, LeastAreWithin, PrefixesRise, LeastGoesOn}

-- ---- the greatest of a list

max_within : (a b n : ℕ) → a ≤ n → b ≤ n → max a b ≤ n
max_within a b n h g = max-le h g

pub greatest_cons : (n x : ℕ) (xs : List ℕ) → greatest (x ∷ xs) ≤ n → (x ≤ n) × (greatest xs ≤ n)
greatest_cons n x xs h =
    let left = le-max_left x (greatest xs) in
    let right = le-max_right x (greatest xs) in (omega arith, omega arith)

pub greatest_append : (n : ℕ) (xs ys : List ℕ) → greatest xs ≤ n → greatest ys ≤ n
    → greatest (xs ++ ys) ≤ n
greatest_append n [] ys h g = g
greatest_append n (x ∷ xs) ys h g =
    let parts = greatest_cons n x xs h in
    max_within x (greatest (xs ++ ys)) n parts.0 (greatest_append n xs ys parts.1 g)

pub greatest_right : (xs ys : List ℕ) → greatest ys ≤ greatest (xs ++ ys)
greatest_right [] ys = omega arith
greatest_right (x ∷ xs) ys =
    let rest = greatest_right xs ys in
    let more = le-max_right x (greatest (xs ++ ys)) in
    omega arith

greatest_drop : (n k : ℕ) (xs : List ℕ) → greatest xs ≤ n → greatest (drop k xs) ≤ n
greatest_drop n zero xs h = h
greatest_drop n (suc k) [] h = h
greatest_drop n (suc k) (x ∷ xs) h = greatest_drop n k xs (greatest_cons n x xs h).1

greatest_take : (n k : ℕ) (xs : List ℕ) → greatest xs ≤ n → greatest (take k xs) ≤ n
greatest_take n zero xs h = omega arith
greatest_take n (suc k) [] h = h
greatest_take n (suc k) (x ∷ xs) h =
    let parts = greatest_cons n x xs h in
    max_within x (greatest (take k xs)) n parts.0 (greatest_take n k xs parts.1)

greatest_same : (n k x : ℕ) → x ≤ n → greatest (replicate k x) ≤ n
greatest_same n zero x h = omega arith
greatest_same n (suc k) x h = max_within x (greatest (replicate k x)) n h (greatest_same n k x h)

-- above each of them is above the greatest
pub above_greatest : (xs : List ℕ) (t : ℕ) → 1 ≤ t → list_all (λ u. nat_lt u t) xs ≡ true
    → suc (greatest xs) ≤ t
above_greatest [] t h g = h
above_greatest (x ∷ xs) t h g =
    let parts = and_parts (nat_lt x t) (list_all (λ u. nat_lt u t) xs) g in
    let first = ltb-true x t parts.0 in
    let rest = above_greatest xs t h parts.1 in
    above x (greatest xs) t first rest
  where
    above : (a b t : ℕ) → a < t → suc b ≤ t → suc (max a b) ≤ t
    above a b zero h g = absurd (omega arith)
    above a b (suc t) h g = let both = max_within a b t (omega arith) (omega arith) in omega arith

pub all_below : (xs : List ℕ) (t : ℕ) → greatest xs < t → list_all (λ u. nat_lt u t) xs ≡ true
all_below [] t h = refl
all_below (x ∷ xs) t h =
    let left = le-max_left x (greatest xs) in
    let right = le-max_right x (greatest xs) in
    and_from (nat_lt x t) (list_all (λ u. nat_lt u t) xs) (lt-ltb x t (omega arith))
    (all_below xs t (omega arith))

-- ---- no stamp is above the greatest of those before it, but by one

at_within : (n m : ℕ) (before : List Stamped) → greatest (stamps_of before) ≤ n
    → greatest (stamps_at m before) ≤ n
at_within n m [] h = h
at_within n m (x ∷ before) h =
    let parts = greatest_cons n x.stamp (stamps_of before) h in
    cases (of_machine m x.entry) parts.0 (at_within n m before parts.1)
  where
    cases : (b : Bool) → x.stamp ≤ n → greatest (stamps_at m before) ≤ n
        → greatest
        (stamps_of
        (cond b (x ∷ filter (λ p. of_machine m p.entry) before)
        (filter (λ p. of_machine m p.entry) before))) ≤ n
    cases true h g = max_within x.stamp (greatest (stamps_at m before)) n h g
    cases false h g = g

sent_within : (net : Network) (n s m : ℕ) (before : List Stamped) → greatest (stamps_of before) ≤ n
    → greatest (stamps_sent net s m before) ≤ n
sent_within net n s m [] h = h
sent_within net n s m (x ∷ before) h =
    let parts = greatest_cons n x.stamp (stamps_of before) h in
    cases (is_firing_of s x.entry) parts.0 (sent_within net n s m before parts.1)
  where
    cases : (b : Bool) → x.stamp ≤ n → greatest (stamps_sent net s m before) ≤ n
        → greatest
        (flat_map (once_each net m)
        (cond b (x ∷ filter (λ p. is_firing_of s p.entry) before)
        (filter (λ p. is_firing_of s p.entry) before))) ≤ n
    cases true h g =
        greatest_append n (once_each net m x) (stamps_sent net s m before)
        (greatest_same n (length (filter (λ e. reads net m e.0) (emissions net x.entry))) x.stamp h)
        g
    cases false h g = g

origin_within : (net : Network) (n : ℕ) (before : List Stamped) (entry : Entry)
    → greatest (stamps_of before) ≤ n → greatest (origin net before entry) ≤ n
origin_within net n before (Dep (Sender s) m e c) h =
    greatest_take n 1 (stamps_owed net s m before)
    (greatest_drop n (length (delivered (Sender s) m (entries before))) (stamps_sent net s m before)
    (sent_within net n s m before h))
origin_within net n before (Dep Env m e c) h = omega arith
origin_within net n before (Rea m s o) h = omega arith

pub below_within : (net : Network) (n : ℕ) (before : List Stamped) (entry : Entry)
    → greatest (stamps_of before) ≤ n → greatest (stamps_below net before entry) ≤ n
below_within net n before entry h =
    greatest_append n (stamps_at (machine_of entry) before) (origin net before entry)
    (at_within n (machine_of entry) before h) (origin_within net n before entry h)

-- one entry more with its least stamp
pub within_more : (net : Network) (before : List Stamped) (entry : Entry)
    → greatest (stamps_of before) ≤ length before
    → greatest (stamps_of (before ++ stamped (least_stamp net before entry) entry ∷ []))
    ≤ length (before ++ stamped (least_stamp net before entry) entry ∷ [])
within_more net before entry h =
    let t : ℕ = least_stamp net before entry in
    let more = length-append before (stamped t entry ∷ []) in
    let below = below_within net (length before) before entry h in
    rw (map-append (λ (p : Stamped). p.stamp) before (stamped t entry ∷ []), more)
    (greatest_append (length before + 1) (stamps_of before) (t ∷ []) (omega arith)
    (max_within t 0 (length before + 1) (omega arith) (omega arith)))

-- ---- the least stamps are Rising

rising_after : (net : Network) (before : List Stamped) (journal : List Entry)
    → greatest (stamps_of before) ≤ length before → length before + length journal ≤ max_stamp
    → rises_after net before journal (least_after net before journal) ≡ true
rising_after net before [] h few = refl
rising_after net before (entry ∷ journal) h few =
    let below : List ℕ = stamps_below net before entry in
    let t : ℕ = least_stamp net before entry in
    let within : greatest below ≤ length before = below_within net (length before) before entry h in
    let more = length-append before (stamped t entry ∷ []) in
    and_from (is_above below t)
    (rises_after net (before ++ stamped t entry ∷ []) journal
    (least_after net (before ++ stamped t entry ∷ []) journal))
    (and_from (nat_le 1 t && nat_le t max_stamp) (list_all (λ u. nat_lt u t) below)
    (and_from (nat_le 1 t) (nat_le t max_stamp) (le-leb 1 t (omega arith))
    (le-leb t max_stamp (omega arith)))
    (all_below below t (omega arith)))
    (rising_after net (before ++ stamped t entry ∷ []) journal (within_more net before entry h)
    (omega arith))

pub least_is_rising : LeastIsRising
least_is_rising net journal few = rising_after net [] journal (omega arith) (omega arith)

many_after : (net : Network) (before : List Stamped) (journal : List Entry)
    → length (least_after net before journal) ≡ length journal
many_after net before [] = refl
many_after net before (entry ∷ journal) =
    ap suc (many_after net (before ++ stamped (least_stamp net before entry) entry ∷ []) journal)

pub least_are_as_many : LeastAreAsMany
least_are_as_many net journal = many_after net [] journal

least_within : (net : Network) (before : List Stamped) (journal : List Entry) (i : ℕ)
    → greatest (stamps_of before) ≤ length before
    → get_or (least_after net before journal) i 0 ≤ length before + i + 1
least_within net before [] i h = omega arith
least_within net before (entry ∷ journal) zero h = let below =
    below_within net (length before) before entry h in omega arith
least_within net before (entry ∷ journal) (suc i) h =
    let t : ℕ = least_stamp net before entry in
    let more = length-append before (stamped t entry ∷ []) in
    let rest =
    least_within net (before ++ stamped t entry ∷ []) journal i (within_more net before entry h) in
    omega arith

pub least_are_within : LeastAreWithin
least_are_within net journal i = let within =
    least_within net [] journal i (omega arith) in omega arith

-- ---- stamps of the same entries, none of which is above the other's

abbrev pub Below : List ℕ → List ℕ → Type 0
Below [] [] = ⊤
Below [] (y ∷ ys) = ⊥
Below (x ∷ xs) [] = ⊥
Below (x ∷ xs) (y ∷ ys) = (x ≤ y) × Below xs ys

abbrev pub Lower : List Stamped → List Stamped → Type 0
Lower [] [] = ⊤
Lower [] (y ∷ ys) = ⊥
Lower (x ∷ xs) [] = ⊥
Lower (x ∷ xs) (y ∷ ys) = (x.entry ≡ y.entry) × (x.stamp ≤ y.stamp) × Lower xs ys

below_append : (xs ys us vs : List ℕ) → Below xs us → Below ys vs → Below (xs ++ ys) (us ++ vs)
below_append [] ys [] vs h g = g
below_append [] ys (u ∷ us) vs h g = absurd h
below_append (x ∷ xs) ys [] vs h g = absurd h
below_append (x ∷ xs) ys (u ∷ us) vs h g = (h.0, below_append xs ys us vs h.1 g)

below_drop : (n : ℕ) (xs ys : List ℕ) → Below xs ys → Below (drop n xs) (drop n ys)
below_drop zero xs ys h = h
below_drop (suc n) [] [] h = tt
below_drop (suc n) [] (y ∷ ys) h = absurd h
below_drop (suc n) (x ∷ xs) [] h = absurd h
below_drop (suc n) (x ∷ xs) (y ∷ ys) h = below_drop n xs ys h.1

below_take : (n : ℕ) (xs ys : List ℕ) → Below xs ys → Below (take n xs) (take n ys)
below_take zero xs ys h = tt
below_take (suc n) [] [] h = tt
below_take (suc n) [] (y ∷ ys) h = absurd h
below_take (suc n) (x ∷ xs) [] h = absurd h
below_take (suc n) (x ∷ xs) (y ∷ ys) h = (h.0, below_take n xs ys h.1)

below_same : (n x y : ℕ) → x ≤ y → Below (replicate n x) (replicate n y)
below_same zero x y h = tt
below_same (suc n) x y h = (h, below_same n x y h)

greatest_below : (xs ys : List ℕ) → Below xs ys → greatest xs ≤ greatest ys
greatest_below [] [] h = omega arith
greatest_below [] (y ∷ ys) h = absurd h
greatest_below (x ∷ xs) [] h = absurd h
greatest_below (x ∷ xs) (y ∷ ys) h =
    let rest = greatest_below xs ys h.1 in
    let first = h.0 in
    let left = le-max_left y (greatest ys) in
    let right = le-max_right y (greatest ys) in
    max_within x (greatest xs) (max y (greatest ys)) (omega arith) (omega arith)

lower_append : (xs ys us vs : List Stamped) → Lower xs us → Lower ys vs
    → Lower (xs ++ ys) (us ++ vs)
lower_append [] ys [] vs h g = g
lower_append [] ys (u ∷ us) vs h g = absurd h
lower_append (x ∷ xs) ys [] vs h g = absurd h
lower_append (x ∷ xs) ys (u ∷ us) vs h g = (h.0, h.1, lower_append xs ys us vs h.2 g)

same_entries : (xs ys : List Stamped) → Lower xs ys → entries xs ≡ entries ys
same_entries [] [] h = refl
same_entries [] (y ∷ ys) h = absurd h
same_entries (x ∷ xs) [] h = absurd h
same_entries (x ∷ xs) (y ∷ ys) h = ap (λ e. e ∷ entries xs) h.0
    ∙ ap (λ l. y.entry ∷ l) (same_entries xs ys h.2)

at_lower : (m : ℕ) (xs ys : List Stamped) → Lower xs ys → Below (stamps_at m xs) (stamps_at m ys)
at_lower m [] [] h = tt
at_lower m [] (y ∷ ys) h = absurd h
at_lower m (x ∷ xs) [] h = absurd h
at_lower m (x ∷ xs) (y ∷ ys) h =
    subst (λ (e : Entry). Below (stamps_at m (x ∷ xs)) (stamps_at m (stamped y.stamp e ∷ ys))) h.0
    (cases (of_machine m x.entry) h.1 (at_lower m xs ys h.2))
  where
    cases : (b : Bool) → x.stamp ≤ y.stamp → Below (stamps_at m xs) (stamps_at m ys)
        → Below
        (stamps_of
        (cond b (x ∷ filter (λ p. of_machine m p.entry) xs)
        (filter (λ p. of_machine m p.entry) xs)))
        (stamps_of
        (cond b (stamped y.stamp x.entry ∷ filter (λ p. of_machine m p.entry) ys)
        (filter (λ p. of_machine m p.entry) ys)))
    cases true first rest = (first, rest)
    cases false first rest = rest

sent_lower : (net : Network) (s m : ℕ) (xs ys : List Stamped) → Lower xs ys
    → Below (stamps_sent net s m xs) (stamps_sent net s m ys)
sent_lower net s m [] [] h = tt
sent_lower net s m [] (y ∷ ys) h = absurd h
sent_lower net s m (x ∷ xs) [] h = absurd h
sent_lower net s m (x ∷ xs) (y ∷ ys) h =
    subst
    (λ (e : Entry). Below (stamps_sent net s m (x ∷ xs))
    (stamps_sent net s m (stamped y.stamp e ∷ ys))) h.0
    (cases (is_firing_of s x.entry) h.1 (sent_lower net s m xs ys h.2))
  where
    same : Stamped
    same = stamped y.stamp x.entry

    cases : (b : Bool) → x.stamp ≤ y.stamp → Below (stamps_sent net s m xs) (stamps_sent net s m ys)
        → Below
        (flat_map (once_each net m)
        (cond b (x ∷ filter (λ p. is_firing_of s p.entry) xs)
        (filter (λ p. is_firing_of s p.entry) xs)))
        (flat_map (once_each net m)
        (cond b (same ∷ filter (λ p. is_firing_of s p.entry) ys)
        (filter (λ p. is_firing_of s p.entry) ys)))
    cases true first rest =
        below_append (once_each net m x) (stamps_sent net s m xs) (once_each net m same)
        (stamps_sent net s m ys)
        (below_same
        (length (filter (λ p. reads net m p.0) (emissions net x.entry))) x.stamp y.stamp first) rest
    cases false first rest = rest

origin_lower : (net : Network) (xs ys : List Stamped) (entry : Entry) → Lower xs ys
    → Below (origin net xs entry) (origin net ys entry)
origin_lower net xs ys (Dep (Sender s) m e c) h =
    let n : List Entry → ℕ = λ es. length (delivered (Sender s) m es) in
    subst
    (λ (es : List Entry). Below (origin net xs (Dep (Sender s) m e c))
    (take 1 (drop (n es) (stamps_sent net s m ys)))) (same_entries xs ys h)
    (below_take 1 (stamps_owed net s m xs) (drop (n (entries xs)) (stamps_sent net s m ys))
    (below_drop (n (entries xs)) (stamps_sent net s m xs) (stamps_sent net s m ys)
    (sent_lower net s m xs ys h)))
origin_lower net xs ys (Dep Env m e c) h = tt
origin_lower net xs ys (Rea m s o) h = tt

below_lower : (net : Network) (xs ys : List Stamped) (entry : Entry) → Lower xs ys
    → greatest (stamps_below net xs entry) ≤ greatest (stamps_below net ys entry)
below_lower net xs ys entry h =
    greatest_below (stamps_below net xs entry) (stamps_below net ys entry)
    (below_append (stamps_at (machine_of entry) xs) (origin net xs entry)
    (stamps_at (machine_of entry) ys) (origin net ys entry) (at_lower (machine_of entry) xs ys h)
    (origin_lower net xs ys entry h))

-- ---- no Rising list is smaller

smaller_after : (net : Network) (xs ys : List Stamped) (journal : List Entry) (ts : List ℕ)
    → Lower xs ys → rises_after net ys journal ts ≡ true → Below (least_after net xs journal) ts
smaller_after net xs ys [] [] h g = tt
smaller_after net xs ys [] (t ∷ ts) h g = absurd (false≢true g)
smaller_after net xs ys (entry ∷ journal) [] h g = absurd (false≢true g)
smaller_after net xs ys (entry ∷ journal) (t ∷ ts) h g =
    let below : List ℕ = stamps_below net ys entry in
    let u : ℕ = least_stamp net xs entry in
    let parts =
    and_parts (is_above below t) (rises_after net (ys ++ stamped t entry ∷ []) journal ts) g in
    let here =
    and_parts (nat_le 1 t && nat_le t max_stamp) (list_all (λ u. nat_lt u t) below) parts.0 in
    let above =
    above_greatest below t
    (leb-true 1 t (and_parts (nat_le 1 t) (nat_le t max_stamp) here.0).0) here.1 in
    let lower = below_lower net xs ys entry h in
    let first : u ≤ t = omega arith in (
      first,
      smaller_after net (xs ++ stamped u entry ∷ []) (ys ++ stamped t entry ∷ []) journal ts
          (lower_append xs (stamped u entry ∷ []) ys (stamped t entry ∷ []) h (refl, first, tt))
          parts.1,
    )

below_at : (xs ys : List ℕ) (i : ℕ) → Below xs ys → get_or xs i 0 ≤ get_or ys i 0
below_at [] [] i h = omega arith
below_at [] (y ∷ ys) i h = absurd h
below_at (x ∷ xs) [] i h = absurd h
below_at (x ∷ xs) (y ∷ ys) zero h = h.0
below_at (x ∷ xs) (y ∷ ys) (suc i) h = below_at xs ys i h.1

pub none_is_smaller : NoneIsSmaller
none_is_smaller net journal ts i h =
    below_at (least net journal) ts i (smaller_after net [] [] journal ts tt h)

-- ---- prefixes

prefixes_rise_after : (net : Network) (before : List Stamped) (journal : List Entry) (ts : List ℕ)
    (k : ℕ) → rises_after net before journal ts ≡ true
    → rises_after net before (take k journal) (take k ts) ≡ true
prefixes_rise_after net before journal ts zero h = refl
prefixes_rise_after net before [] [] (suc k) h = refl
prefixes_rise_after net before [] (t ∷ ts) (suc k) h = absurd (false≢true h)
prefixes_rise_after net before (entry ∷ journal) [] (suc k) h = absurd (false≢true h)
prefixes_rise_after net before (entry ∷ journal) (t ∷ ts) (suc k) h =
    let parts =
    and_parts (is_above (stamps_below net before entry) t)
    (rises_after net (before ++ stamped t entry ∷ []) journal ts) h in
    and_from (is_above (stamps_below net before entry) t)
    (rises_after net (before ++ stamped t entry ∷ []) (take k journal) (take k ts)) parts.0
    (prefixes_rise_after net (before ++ stamped t entry ∷ []) journal ts k parts.1)

pub prefixes_rise : PrefixesRise
prefixes_rise net journal ts k h = prefixes_rise_after net [] journal ts k h

goes_on_after : (net : Network) (before : List Stamped) (journal more : List Entry)
    → Begins (least_after net before journal) (least_after net before (journal ++ more))
goes_on_after net before [] more = (least_after net before more, refl)
goes_on_after net before (entry ∷ journal) more =
    let t : ℕ = least_stamp net before entry in
    let rest = goes_on_after net (before ++ stamped t entry ∷ []) journal more in
    (rest.0, ap (λ l. t ∷ l) rest.1)

pub least_goes_on : LeastGoesOn
least_goes_on net journal more = goes_on_after net [] journal more

pub greatest_both : (xs ys : List ℕ) → greatest (xs ++ ys) ≡ max (greatest xs) (greatest ys)
greatest_both [] ys = omega arith
greatest_both (x ∷ xs) ys = let rest = greatest_both xs ys in omega arith
