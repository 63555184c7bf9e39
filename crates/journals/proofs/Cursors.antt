-- The places of the items that pass a test, and the environment's next delivery to a machine.
use Rattle.std.specs.Prelude.{◌≡◌, ℕ, zero, suc, ◌+◌, ◌<◌, Bool, true, false, cond, not, List, [], ◌∷◌, filter, filter_map, length, drop, slice_get, option_and_then}
use Rattle.std.specs.List.{prefix_len}
use Rattle.std.proofs.Common.{refl, arith}
use Rattle.transition_table.specs.declared.network.Network.{Network}
use Rattle.journals.specs.declared.entry.TraceItem.{TraceItem}
use Rattle.journals.specs.declared.entry.TraceItem.TheVariants.{Event, Settle}
use Rattle.journals.specs.Journals.{reads, event_of}
use Rattle.journals.specs.Cursors.{is_read, nth_place}

-- ---- the places of those that pass

pub nth_place_first : {X : Type 0} (p : X → Bool) (xs : List X)
    → nth_place p xs 0 ≡ prefix_len (λ y. not (p y)) xs
nth_place_first p [] = refl
nth_place_first p (x ∷ xs) =
    let rest : nth_place p xs 0 ≡ prefix_len (λ y. not (p y)) xs = nth_place_first p xs in
    elim
    (p x) as (λ b.
    cond b 0 (suc (nth_place p xs 0)) ≡ cond (not b) (1 + prefix_len (λ y. not (p y)) xs) 0) [
      | true ↦ refl
      | false ↦ omega arith
    ]

pub nth_place_next : {X : Type 0} (p : X → Bool) (xs : List X) (k : ℕ)
    → nth_place p xs k < length xs
    → nth_place p xs (suc k)
    ≡ suc (nth_place p xs k) + prefix_len (λ y. not (p y)) (drop (suc (nth_place p xs k)) xs)
nth_place_next p [] k h = absurd (omega arith)
nth_place_next p (x ∷ xs) zero h =
    let rest : nth_place p xs 0 < length xs
    → nth_place p xs 1
    ≡ suc (nth_place p xs 0) + prefix_len (λ y. not (p y)) (drop (suc (nth_place p xs 0)) xs) =
    nth_place_next p xs 0 in
    let first : nth_place p xs 0 ≡ prefix_len (λ y. not (p y)) xs = nth_place_first p xs in
    (elim
    (p x) as (λ b. cond b 0 (suc (nth_place p xs 0)) < suc (length xs)
    → suc (nth_place p xs (cond b 0 1))
    ≡ suc (cond b 0 (suc (nth_place p xs 0)))
    + prefix_len (λ y. not (p y)) (drop (cond b 0 (suc (nth_place p xs 0))) xs)) [
      | true ↦ λ g. omega arith
      | false ↦ λ g. let more = rest (omega arith) in omega arith
    ]) h
nth_place_next p (x ∷ xs) (suc k) h =
    let here : (j : ℕ) → nth_place p xs j < length xs
    → nth_place p xs (suc j)
    ≡ suc (nth_place p xs j) + prefix_len (λ y. not (p y)) (drop (suc (nth_place p xs j)) xs) =
    nth_place_next p xs in
    (elim
    (p x) as (λ b. nth_place p xs (cond b k (suc k)) < length xs
    → suc (nth_place p xs (cond b (suc k) (suc (suc k))))
    ≡ suc (suc (nth_place p xs (cond b k (suc k))))
    + prefix_len (λ y. not (p y)) (drop (suc (nth_place p xs (cond b k (suc k)))) xs)) [
      | true ↦ λ g. let more = here k g in omega arith
      | false ↦ λ g. let more = here (suc k) g in omega arith
    ]) (omega arith)

-- ---- what the environment sends next

-- the event of the item at the place of the k-th that m reads is the k-th that the environment
-- sends to m
pub env_at : (net : Network) (m : ℕ) (items : List TraceItem) (k : ℕ)
    → slice_get (filter (λ p. reads net m p.0) (filter_map event_of items)) k
    ≡ option_and_then event_of (slice_get items (nth_place (is_read net m) items k))
env_at net m [] k = refl
env_at net m (Settle ∷ items) zero = env_at net m items 0
env_at net m (Settle ∷ items) (suc k) = env_at net m items (suc k)
env_at net m (Event e c ∷ items) zero =
    elim
    (reads net m e) as (λ b.
    slice_get
    (cond b ((e, c) ∷ filter (λ p. reads net m p.0) (filter_map event_of items))
    (filter (λ p. reads net m p.0) (filter_map event_of items))) 0
    ≡ option_and_then event_of
    (slice_get (Event e c ∷ items) (cond b 0 (suc (nth_place (is_read net m) items 0))))) [
      | true ↦ refl
      | false ↦ env_at net m items 0
    ]
env_at net m (Event e c ∷ items) (suc k) =
    elim
    (reads net m e) as (λ b.
    slice_get
    (cond b ((e, c) ∷ filter (λ p. reads net m p.0) (filter_map event_of items))
    (filter (λ p. reads net m p.0) (filter_map event_of items))) (suc k)
    ≡ option_and_then event_of
    (slice_get items (nth_place (is_read net m) items (cond b k (suc k))))) [
      | true ↦ env_at net m items k
      | false ↦ env_at net m items (suc k)
    ]
