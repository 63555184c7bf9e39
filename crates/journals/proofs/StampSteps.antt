-- Stamps of journals that are one entry longer.
use Rattle.std.specs.Prelude.{◌≡◌, ℕ, zero, suc, ◌+◌, ◌<◌, ◌≤◌, Bool, true, false, cond, ◌&&◌, nat_lt, nat_le, List, [], ◌∷◌, ◌++◌, filter, flat_map, length, take, drop, slice_get, Some}
use Rattle.std.specs.List.{list_all}
use Rattle.std.proofs.Common.{refl, sym, ap, ◌∙◌, subst, arith, length-append, append_assoc}
use Rattle.std.proofs.lemmas.List.{append-nil, length-replicate, take_more, take-append-drop, map-append}
use Rattle.std.proofs.lemmas.List.Elements.{filter-append}
use Rattle.std.proofs.lemmas.Bool.{false≢true, leb-true, le-leb, and_parts, and_from}
use Rattle.std.proofs.lemmas.Option.{get_or_from_slice_get}
use Rattle.transition_table.specs.declared.decl.Party.TheVariants.{Machine as Sender}
use Rattle.transition_table.specs.declared.network.Network.{Network}
use Rattle.journals.specs.declared.entry.Entry.{Entry}
use Rattle.journals.specs.declared.entry.TraceItem.{TraceItem}
use Rattle.journals.specs.declared.stamped.Stamped.{Stamped}
use Rattle.journals.specs.Journals.{FitsNetwork, reads, is_firing_of, emissions, sent, IsJournal}
use Rattle.journals.specs.Laws.{PrefixesAreLegal, GoesOnBySteps}
use Rattle.journals.specs.Legality.{Legal, MayFollow}
use Rattle.journals.specs.Logs.{entries, max_stamp, stamped, with_stamps}
use Rattle.journals.specs.StampLaws.{AsManyStampsSent, LeastBySteps, RisingBySteps, RisingAreAsMany, StandsAbove}
use Rattle.journals.specs.Stamps.{greatest, once_each, stamps_sent, stamps_below, is_above, rises_after, least_stamp, least_after}
use Rattle.journals.proofs.LeastStamps.{all_below, above_greatest}

-- ---- prefixes of a legal journal

pub prefix_more : {X : Type 0} (journal : List X) (i : ℕ) (entry : X) → i < length journal
    → slice_get journal i ≡ Some entry
    → take (i + 1) journal ≡ take i journal ++ entry ∷ []
prefix_more journal i entry below at =
    let item = get_or_from_slice_get journal i entry entry at in
    let more = take_more journal i entry below in
    rw item at more

pub length_prefix : {X : Type 0} (xs : List X) (i : ℕ) → i ≤ length xs → length (take i xs) ≡ i
length_prefix xs zero h = refl
length_prefix [] (suc i) h = absurd (omega arith)
length_prefix (x ∷ xs) (suc i) h = ap suc (length_prefix xs i (omega arith))

pub prefix_step : PrefixesAreLegal → GoesOnBySteps
    → (net : Network) (trace : List TraceItem) (journal : List Entry) (i : ℕ) (entry : Entry)
    → Legal net trace journal → i < length journal → slice_get journal i ≡ Some entry
    → Legal net trace (take i journal) × FitsNetwork net entry
    × MayFollow net trace (take i journal) entry
prefix_step prefixes steps net trace journal i entry legal below at =
    let whole : journal ≡ take (i + 1) journal ++ drop (i + 1) journal =
    sym (take-append-drop (i + 1) journal) in
    let prefix =
    prefixes net trace (take (i + 1) journal) (drop (i + 1) journal)
    (subst (Legal net trace) whole legal) in
    (steps net trace (take i journal) entry).0
    (subst (Legal net trace) (prefix_more journal i entry below at) prefix)

-- ---- entries with stamps

pub entries_with_stamps : (journal : List Entry) (ts : List ℕ) → length ts ≡ length journal
    → entries (with_stamps journal ts) ≡ journal
entries_with_stamps [] ts h = refl
entries_with_stamps (e ∷ journal) [] h = absurd (omega arith)
entries_with_stamps (e ∷ journal) (t ∷ ts) h =
    ap (λ l. e ∷ l) (entries_with_stamps journal ts (omega arith))

pub take_with_stamps : (journal : List Entry) (ts : List ℕ) (p : ℕ)
    → take p (with_stamps journal ts) ≡ with_stamps (take p journal) (take p ts)
take_with_stamps journal ts zero = refl
take_with_stamps [] ts (suc p) = refl
take_with_stamps (e ∷ journal) [] (suc p) = refl
take_with_stamps (e ∷ journal) (t ∷ ts) (suc p) =
    ap (λ l. stamped t e ∷ l) (take_with_stamps journal ts p)

-- ---- as many stamps are sent as emissions

pub as_many_sent : AsManyStampsSent
as_many_sent net trace s m [] = refl
as_many_sent net trace s m (x ∷ xs) = cases (is_firing_of s x.entry) (as_many_sent net trace s m xs)
  where
    firings : List Stamped
    firings = filter (λ p. is_firing_of s p.entry) xs

    later : List Entry
    later = filter (is_firing_of s) (entries xs)

    cases : (b : Bool)
        → length (stamps_sent net s m xs) ≡ length (sent net trace (Sender s) m (entries xs))
        → length (flat_map (once_each net m) (cond b (x ∷ firings) firings))
        ≡ length
        (filter (λ (q : ℕ × ℕ). reads net m q.0)
        (flat_map (emissions net) (cond b (x.entry ∷ later) later)))
    cases false h = h
    cases true h =
        let rest : List (ℕ × ℕ) = flat_map (emissions net) later in
        let own : List (ℕ × ℕ) = filter (λ (q : ℕ × ℕ). reads net m q.0) (emissions net x.entry) in
        let parts =
        ap length (filter-append (λ (q : ℕ × ℕ). reads net m q.0) (emissions net x.entry) rest)
        ∙ length-append own (filter (λ (q : ℕ × ℕ). reads net m q.0) rest) in
        let size = length-append (once_each net m x) (stamps_sent net s m xs) in
        let same = length-replicate (length own) x.stamp in
        omega arith

-- ---- the least stamps

least_more : (net : Network) (before : List Stamped) (journal : List Entry) (entry : Entry)
    → least_after net before (journal ++ entry ∷ [])
    ≡ least_after net before journal
    ++ least_stamp net (before ++ with_stamps journal (least_after net before journal)) entry ∷ []
least_more net before [] entry = ap (λ l. least_stamp net l entry ∷ []) (sym (append-nil before))
least_more net before (e ∷ journal) entry =
    let t : ℕ = least_stamp net before e in
    let more : List Stamped = before ++ stamped t e ∷ [] in
    let rest : List ℕ = least_after net more journal in
    ap (λ l. t ∷ l)
    (least_more net more journal entry
    ∙ ap (λ l. rest ++ least_stamp net l entry ∷ [])
    (append_assoc before (stamped t e ∷ []) (with_stamps journal rest)))

pub least_by_steps : LeastBySteps
least_by_steps net journal entry = least_more net [] journal entry

-- ---- Rising

rises_more : (net : Network) (before : List Stamped) (journal : List Entry) (ts : List ℕ)
    (entry : Entry) (t : ℕ)
    → rises_after net before journal ts ≡ true
    → is_above (stamps_below net (before ++ with_stamps journal ts) entry) t ≡ true
    → rises_after net before (journal ++ entry ∷ []) (ts ++ t ∷ []) ≡ true
rises_more net before [] [] entry t h g =
    and_from (is_above (stamps_below net before entry) t) true
    (subst (λ l. is_above (stamps_below net l entry) t ≡ true) (append-nil before) g) refl
rises_more net before [] (u ∷ ts) entry t h g = absurd (false≢true h)
rises_more net before (e ∷ journal) [] entry t h g = absurd (false≢true h)
rises_more net before (e ∷ journal) (u ∷ ts) entry t h g =
    let more : List Stamped = before ++ stamped u e ∷ [] in
    let parts =
    and_parts (is_above (stamps_below net before e) u) (rises_after net more journal ts) h in
    and_from (is_above (stamps_below net before e) u)
    (rises_after net more (journal ++ entry ∷ []) (ts ++ t ∷ [])) parts.0
    (rises_more net more journal ts entry t parts.1
    (subst (λ l. is_above (stamps_below net l entry) t ≡ true)
    (sym (append_assoc before (stamped u e ∷ []) (with_stamps journal ts))) g))

rises_last : (net : Network) (before : List Stamped) (journal : List Entry) (ts : List ℕ)
    (entry : Entry) (t : ℕ)
    → length ts ≡ length journal
    → rises_after net before (journal ++ entry ∷ []) (ts ++ t ∷ []) ≡ true
    → (rises_after net before journal ts ≡ true)
    × (is_above (stamps_below net (before ++ with_stamps journal ts) entry) t ≡ true)
rises_last net before [] [] entry t h g =
    let here = (and_parts (is_above (stamps_below net before entry) t) true g).0 in
    (refl, subst (λ l. is_above (stamps_below net l entry) t ≡ true) (sym (append-nil before)) here)
rises_last net before [] (u ∷ ts) entry t h g = absurd (omega arith)
rises_last net before (e ∷ journal) [] entry t h g = absurd (omega arith)
rises_last net before (e ∷ journal) (u ∷ ts) entry t h g =
    let more : List Stamped = before ++ stamped u e ∷ [] in
    let parts =
    and_parts (is_above (stamps_below net before e) u)
    (rises_after net more (journal ++ entry ∷ []) (ts ++ t ∷ [])) g in
    let rest = rises_last net more journal ts entry t (omega arith) parts.1 in (
      and_from (is_above (stamps_below net before e) u)
          (rises_after net more journal ts) parts.0 rest.0,
      subst (λ l. is_above (stamps_below net l entry) t ≡ true)
          (append_assoc before (stamped u e ∷ []) (with_stamps journal ts)) rest.1,
    )

pub rising_by_steps : RisingBySteps
rising_by_steps net journal ts entry t many =
    (rises_last net [] journal ts entry t many, λ h. rises_more net [] journal ts entry t h.0 h.1)

many_rising : (net : Network) (before : List Stamped) (journal : List Entry) (ts : List ℕ)
    → rises_after net before journal ts ≡ true → length ts ≡ length journal
many_rising net before [] [] h = refl
many_rising net before [] (t ∷ ts) h = absurd (false≢true h)
many_rising net before (e ∷ journal) [] h = absurd (false≢true h)
many_rising net before (e ∷ journal) (t ∷ ts) h =
    let more : List Stamped = before ++ stamped t e ∷ [] in
    ap suc
    (many_rising net more journal ts
    (and_parts (is_above (stamps_below net before e) t) (rises_after net more journal ts) h).1)

pub rising_are_as_many : RisingAreAsMany
rising_are_as_many net journal ts h = many_rising net [] journal ts h

-- ---- a stamp above others

pub stands_above : StandsAbove
stands_above below t = (above, within)
  where
    above : is_above below t ≡ true → (greatest below < t) × (t ≤ max_stamp)
    above h =
        let parts =
        and_parts (nat_le 1 t && nat_le t max_stamp) (list_all (λ u. nat_lt u t) below) h in
        let bounds = and_parts (nat_le 1 t) (nat_le t max_stamp) parts.0 in
        let over = above_greatest below t (leb-true 1 t bounds.0) parts.1 in
        (omega arith, leb-true t max_stamp bounds.1)

    within : (greatest below < t) × (t ≤ max_stamp) → is_above below t ≡ true
    within (low, high) =
        and_from (nat_le 1 t && nat_le t max_stamp) (list_all (λ u. nat_lt u t) below)
        (and_from (nat_le 1 t) (nat_le t max_stamp) (le-leb 1 t (omega arith))
        (le-leb t max_stamp high))
        (all_below below t low)

pub entries_more : (done : List Stamped) (x : Stamped)
    → entries (done ++ x ∷ []) ≡ entries done ++ x.entry ∷ []
entries_more done x = map-append (λ (p : Stamped). p.entry) done (x ∷ [])

pub item_fits :
    (net : Network) (log : List Stamped) (k : ℕ) (x : Stamped)
    → IsJournal net (entries log) → slice_get log k ≡ Some x → FitsNetwork net x.entry
item_fits net [] k x h at = absurd cc
item_fits net (y ∷ log) zero x h at =
    let same : y ≡ x = cc in subst (λ (z : Stamped). FitsNetwork net z.entry) same h.0
item_fits net (y ∷ log) (suc k) x h at = item_fits net log k x h.1 at
