-- The blocks of the environment's deliveries by the places of the trace.
use Rattle.std.proofs.Common.{◌≡◌, ℕ, zero, suc, ◌+◌, ◌<◌, ◌≤◌, Bool, true, false, cond, ◌&&◌, ◌||◌, ◌==◌, List, [], ◌∷◌, ◌++◌, map, filter, length, take, slice_get, Some, None, option_map, refl, sym, ap, ◌∙◌, inl, inr, add-one, arith}
use Rattle.std.specs.List.{list_any}
use Rattle.std.proofs.lemmas.List.{append-nil, map-append}
use Rattle.std.proofs.lemmas.List.Elements.{filter-append}
use Rattle.std.proofs.lemmas.List.Folds.{list_any-append}
use Rattle.std.proofs.lemmas.Option.{slice_get-map, slice_get_cases}
use Rattle.polis_base.specs.Lists.{head_of, upto}
use Rattle.transition_table.specs.NetworkFacts.{has}
use Rattle.transition_table.specs.declared.decl.Party.TheVariants.{Env}
use Rattle.transition_table.specs.declared.network.Network.{Network}
use Rattle.journals.specs.declared.entry.Entry.{Entry}
use Rattle.journals.specs.declared.entry.Owed.{Owed}
use Rattle.journals.specs.declared.entry.TraceItem.{TraceItem}
use Rattle.journals.specs.declared.entry.TraceItem.TheVariants.{Event, Settle}
use Rattle.journals.specs.Cursors.{cursor, is_read, nth_place}
use Rattle.journals.specs.Journals.{delivered, reads}
use Rattle.journals.specs.Laws.{TraceGivesSent}
use Rattle.journals.specs.Schedules.{deliveries_of, event_code, is_way}
use Rattle.journals.proofs.DeliveriesOfWay.{filter_of_map}
use Rattle.journals.proofs.FirstOfWay.{find_is_head, head_of_drop}
use Rattle.journals.proofs.OwedAfter.{owed_of_way}
use Rattle.run_shuffle.specs.Blocks.{block_deliveries, block_to, blocks_to, owed_in_blocks}
use Rattle.run_shuffle.specs.inner.Blocks.{blocks_read, settles}
use Rattle.polis_base.proofs.Places.{map_of_map}

-- ---- the blocks of the deliveries to a machine

-- an event gives a machine that reads it one delivery
one_delivery : TraceGivesSent → (net : Network) (m b e c : ℕ)
    → map (λ (p : Owed × ℕ). p.1)
    (filter (λ (p : Owed × ℕ). is_way Env m p.0) (map (λ d. (d, b)) (deliveries_of net Env (e, c))))
    ≡ cond (reads net m e) (b ∷ []) []
one_delivery gives net m b e c =
    ap (map (λ (p : Owed × ℕ). p.1))
    (filter_of_map (λ (p : Owed × ℕ). is_way Env m p.0) (λ d. (d, b)) (deliveries_of net Env (e, c)))
    ∙ map_of_map (λ (p : Owed × ℕ). p.1) (λ d. (d, b))
    (filter (is_way Env m) (deliveries_of net Env (e, c)))
    ∙ sym
    (map_of_map (λ (q : ℕ × ℕ). b) event_code (filter (is_way Env m) (deliveries_of net Env (e, c))))
    ∙ ap (map (λ (q : ℕ × ℕ). b)) by_reading
    ∙ each (reads net m e)
  where
    by_reading : map event_code (filter (is_way Env m) (deliveries_of net Env (e, c)))
        ≡ cond (reads net m e) ((e, c) ∷ []) []
    by_reading =
        sym
        (ap (map (λ (p : Owed × Bool). event_code p.0))
        (ap (filter (λ (p : Owed × Bool). is_way Env m p.0))
        (append-nil (map (λ d. (d, false)) (deliveries_of net Env (e, c))))
        ∙ filter_of_map (λ (p : Owed × Bool). is_way Env m p.0) (λ d. (d, false))
        (deliveries_of net Env (e, c)))
        ∙ map_of_map (λ (p : Owed × Bool). event_code p.0) (λ d. (d, false))
        (filter (is_way Env m) (deliveries_of net Env (e, c))))
        ∙ gives net m false (Event e c ∷ [])

    each : (r : Bool) → map (λ (q : ℕ × ℕ). b) (cond r ((e, c) ∷ []) []) ≡ cond r (b ∷ []) []
    each true = refl
    each false = refl

pub blocks_of_way : TraceGivesSent → (net : Network) (m b : ℕ) (trace : List TraceItem)
    → map (λ (p : Owed × ℕ). p.1)
    (filter (λ (p : Owed × ℕ). is_way Env m p.0) (block_deliveries net b trace))
    ≡ blocks_read net m b trace
blocks_of_way gives net m b [] = refl
blocks_of_way gives net m b (Settle ∷ items) = blocks_of_way gives net m (b + 1) items
blocks_of_way gives net m b (Event e c ∷ items) =
    ap (map (λ (p : Owed × ℕ). p.1))
    (filter-append (λ (p : Owed × ℕ). is_way Env m p.0)
    (map (λ d. (d, b)) (deliveries_of net Env (e, c))) (block_deliveries net b items))
    ∙ map-append (λ (p : Owed × ℕ). p.1)
    (filter (λ (p : Owed × ℕ). is_way Env m p.0)
    (map (λ d. (d, b)) (deliveries_of net Env (e, c))))
    (filter (λ (p : Owed × ℕ). is_way Env m p.0) (block_deliveries net b items))
    ∙ ap
    (λ l. l
    ++ map (λ (p : Owed × ℕ). p.1)
    (filter (λ (p : Owed × ℕ). is_way Env m p.0) (block_deliveries net b items)))
    (one_delivery gives net m b e c)
    ∙ ap (λ l. cond (reads net m e) (b ∷ []) [] ++ l) (blocks_of_way gives net m b items)
    ∙ joined (reads net m e)
  where
    joined : (r : Bool) → cond r (b ∷ []) [] ++ blocks_read net m b items
        ≡ cond r (b ∷ blocks_read net m b items) (blocks_read net m b items)
    joined true = refl
    joined false = refl

-- the block of the first owed delivery to a machine
pub block_by_count : TraceGivesSent
    → (net : Network) (trace : List TraceItem) (journal : List Entry) (m : ℕ)
    → block_to net trace journal m
    ≡ slice_get (blocks_read net m 0 trace) (length (delivered Env m journal))
block_by_count gives net trace journal m =
    ap (option_map (λ (p : Owed × ℕ). p.1))
    (find_is_head (λ (p : Owed × ℕ). is_way Env m p.0) (owed_in_blocks net trace journal)
    ∙ ap head_of (owed_of_way (λ (p : Owed × ℕ). p.0) Env m journal (block_deliveries net 0 trace))
    ∙ head_of_drop (length (delivered Env m journal))
    (filter (λ (p : Owed × ℕ). is_way Env m p.0) (block_deliveries net 0 trace)))
    ∙ sym
    (slice_get-map (λ (p : Owed × ℕ). p.1)
    (filter (λ (p : Owed × ℕ). is_way Env m p.0) (block_deliveries net 0 trace))
    (length (delivered Env m journal)))
    ∙ ap (λ l. slice_get l (length (delivered Env m journal))) (blocks_of_way gives net m 0 trace)

-- ---- by places

block_within : (net : Network) (m b : ℕ) (trace : List TraceItem) (k : ℕ)
    → nth_place (is_read net m) trace k < length trace
    → slice_get (blocks_read net m b trace) k
    ≡ Some (b + settles (take (nth_place (is_read net m) trace k) trace))
block_within net m b [] k h = absurd (omega arith)
block_within net m b (Settle ∷ items) zero h =
    block_within net m (b + 1) items zero (omega arith)
    ∙ ap Some (omega arith)
block_within net m b (Settle ∷ items) (suc k) h =
    block_within net m (b + 1) items (suc k) (omega arith)
    ∙ ap Some (omega arith)
block_within net m b (Event e c ∷ items) zero h =
    cases (reads net m e) h (λ low. block_within net m b items zero low)
  where
    cases : (r : Bool) → cond r 0 (suc (nth_place (is_read net m) items 0)) < suc (length items)
        → (nth_place (is_read net m) items 0 < length items
        → slice_get (blocks_read net m b items) zero
        ≡ Some (b + settles (take (nth_place (is_read net m) items 0) items)))
        → slice_get (cond r (b ∷ blocks_read net m b items) (blocks_read net m b items)) zero
        ≡ Some
        (b + settles (take (cond r 0 (suc (nth_place (is_read net m) items 0))) (Event e c ∷ items)))
    cases true low rest = ap Some (omega arith)
    cases false low rest = rest (omega arith)
block_within net m b (Event e c ∷ items) (suc k) h =
    cases (reads net m e) h (block_within net m b items k) (block_within net m b items (suc k))
  where
    Given : ℕ → Type 0
    Given j =
        nth_place (is_read net m) items j < length items
        → slice_get (blocks_read net m b items) j
        ≡ Some (b + settles (take (nth_place (is_read net m) items j) items))

    cases : (r : Bool)
        → suc (nth_place (is_read net m) items (cond r k (suc k))) < suc (length items)
        → Given k → Given (suc k)
        → slice_get (cond r (b ∷ blocks_read net m b items) (blocks_read net m b items)) (suc k)
        ≡ Some
        (b
        + settles
        (take (suc (nth_place (is_read net m) items (cond r k (suc k)))) (Event e c ∷ items)))
    cases true low here rest = here (omega arith)
    cases false low here rest = rest (omega arith)

-- one item more
pub settles_more : (trace : List TraceItem) (i : ℕ) (item : TraceItem)
    → slice_get trace i ≡ Some item
    → settles (take (suc i) trace) ≡ settles (take i trace) + settles (item ∷ [])
settles_more [] i item at = cc
settles_more (x ∷ items) zero item at =
    let same : x ≡ item = cc in
    let here = ap (λ (y : TraceItem). settles (y ∷ [])) same in
    omega (arith, here)
settles_more (Settle ∷ items) (suc i) item at =
    let rest = settles_more items i item at in omega (arith, rest)
settles_more (Event e c ∷ items) (suc i) item at = settles_more items i item at

block_past : (net : Network) (m b : ℕ) (trace : List TraceItem) (k : ℕ)
    → length trace ≤ nth_place (is_read net m) trace k
    → slice_get (blocks_read net m b trace) k ≡ None
block_past net m b [] zero h = refl
block_past net m b [] (suc k) h = refl
block_past net m b (Settle ∷ items) zero h = block_past net m (b + 1) items zero (omega arith)
block_past net m b (Settle ∷ items) (suc k) h = block_past net m (b + 1) items (suc k) (omega arith)
block_past net m b (Event e c ∷ items) zero h =
    cases (reads net m e) h (block_past net m b items zero)
  where
    cases : (r : Bool) → suc (length items) ≤ cond r 0 (suc (nth_place (is_read net m) items 0))
        → (length items ≤ nth_place (is_read net m) items 0
        → slice_get (blocks_read net m b items) zero ≡ None)
        → slice_get (cond r (b ∷ blocks_read net m b items) (blocks_read net m b items)) zero ≡ None
    cases true past rest = absurd (omega arith)
    cases false past rest = rest (omega arith)
block_past net m b (Event e c ∷ items) (suc k) h =
    cases (reads net m e) h (block_past net m b items k) (block_past net m b items (suc k))
  where
    Given : ℕ → Type 0
    Given j =
        length items ≤ nth_place (is_read net m) items j
        → slice_get (blocks_read net m b items) j ≡ None

    cases : (r : Bool)
        → suc (length items) ≤ suc (nth_place (is_read net m) items (cond r k (suc k)))
        → Given k → Given (suc k)
        → slice_get (cond r (b ∷ blocks_read net m b items) (blocks_read net m b items)) (suc k)
        ≡ None
    cases true past here rest = here (omega arith)
    cases false past here rest = rest (omega arith)

-- so the block of the first owed delivery to a machine is told by its place
pub block_at_place : TraceGivesSent
    → (net : Network) (trace : List TraceItem) (journal : List Entry) (m : ℕ)
    → cursor net trace journal m < length trace
    → block_to net trace journal m ≡ Some (settles (take (cursor net trace journal m) trace))
block_at_place gives net trace journal m below =
    block_by_count gives net trace journal m
    ∙ block_within net m 0 trace (length (delivered Env m journal)) below ∙ ap Some (omega arith)

pub no_block_past : TraceGivesSent
    → (net : Network) (trace : List TraceItem) (journal : List Entry) (m : ℕ)
    → length trace ≤ cursor net trace journal m → block_to net trace journal m ≡ None
no_block_past gives net trace journal m past =
    block_by_count gives net trace journal m
    ∙ block_past net m 0 trace (length (delivered Env m journal)) past

-- ---- the blocks of what is delivered

-- the blocks of the first items that m reads are those of the items before the next one
blocks_before : (net : Network) (m b : ℕ) (trace : List TraceItem) (k : ℕ)
    → take k (blocks_read net m b trace)
    ≡ blocks_read net m b (take (nth_place (is_read net m) trace k) trace)
blocks_before net m b [] zero = refl
blocks_before net m b [] (suc k) = refl
blocks_before net m b (Settle ∷ items) zero = blocks_before net m (b + 1) items zero
blocks_before net m b (Settle ∷ items) (suc k) = blocks_before net m (b + 1) items (suc k)
blocks_before net m b (Event e c ∷ items) zero =
    cases (reads net m e) refl (blocks_before net m b items zero)
  where
    cases : (r : Bool) → reads net m e ≡ r
        → take 0 (blocks_read net m b items)
        ≡ blocks_read net m b (take (nth_place (is_read net m) items 0) items)
        → take 0 (cond r (b ∷ blocks_read net m b items) (blocks_read net m b items))
        ≡ blocks_read net m b
        (take (cond r 0 (suc (nth_place (is_read net m) items 0))) (Event e c ∷ items))
    cases true is rest = refl
    cases false is rest =
        let before : List ℕ =
        blocks_read net m b (take (nth_place (is_read net m) items 0) items) in
        rest ∙ sym (ap (λ t. cond t (b ∷ before) before) is)
blocks_before net m b (Event e c ∷ items) (suc k) =
    cases (reads net m e) refl (blocks_before net m b items k) (blocks_before net m b items (suc k))
  where
    before : ℕ → List ℕ
    before j = blocks_read net m b (take (nth_place (is_read net m) items j) items)

    cases : (r : Bool) → reads net m e ≡ r
        → take k (blocks_read net m b items) ≡ before k
        → take (suc k) (blocks_read net m b items) ≡ before (suc k)
        → take (suc k) (cond r (b ∷ blocks_read net m b items) (blocks_read net m b items))
        ≡ blocks_read net m b
        (take (suc (nth_place (is_read net m) items (cond r k (suc k)))) (Event e c ∷ items))
    cases true is here rest =
        ap (λ l. b ∷ l) here ∙ sym (ap (λ t. cond t (b ∷ before k) (before k)) is)
    cases false is here rest =
        rest ∙ sym (ap (λ t. cond t (b ∷ before (suc k)) (before (suc k))) is)

-- the blocks of one item more
blocks_more : (net : Network) (m b : ℕ) (trace : List TraceItem) (i : ℕ) (item : TraceItem)
    → slice_get trace i ≡ Some item
    → blocks_read net m b (take (suc i) trace)
    ≡ blocks_read net m b (take i trace)
    ++ cond (is_read net m item) ((b + settles (take i trace)) ∷ []) []
blocks_more net m b [] zero item at = cc
blocks_more net m b [] (suc i) item at = cc
blocks_more net m b (x ∷ items) zero item at =
    let same : x ≡ item = cc in
    first x ∙ ap (λ (y : TraceItem). cond (is_read net m y) ((b + 0) ∷ []) []) same
  where
    first : (y : TraceItem)
        → blocks_read net m b (y ∷ []) ≡ cond (is_read net m y) ((b + 0) ∷ []) []
    first Settle = refl
    first (Event e c) = ap (λ k. cond (reads net m e) (k ∷ []) []) (omega arith)
blocks_more net m b (Settle ∷ items) (suc i) item at =
    blocks_more net m (b + 1) items i item at
    ∙ ap
    (λ k. blocks_read net m (b + 1) (take i items) ++ cond (is_read net m item) (k ∷ []) [])
    (omega arith)
blocks_more net m b (Event e c ∷ items) (suc i) item at =
    cases (reads net m e) (blocks_more net m b items i item at)
  where
    own : List ℕ
    own = cond (is_read net m item) ((b + settles (take i items)) ∷ []) []

    cases : (r : Bool)
        → blocks_read net m b (take (suc i) items) ≡ blocks_read net m b (take i items) ++ own
        → cond r (b ∷ blocks_read net m b (take (suc i) items))
        (blocks_read net m b (take (suc i) items))
        ≡ cond r (b ∷ blocks_read net m b (take i items)) (blocks_read net m b (take i items)) ++ own
    cases true rest = ap (λ l. b ∷ l) rest
    cases false rest = rest

-- what was delivered to m has a block exactly where an item of it stands before m's place
pub came_by_place : TraceGivesSent
    → (net : Network) (trace : List TraceItem) (journal : List Entry) (m block : ℕ)
    → has (take (length (delivered Env m journal)) (blocks_to net trace m)) block
    ≡ has (blocks_read net m 0 (take (cursor net trace journal m) trace)) block
came_by_place gives net trace journal m block =
    ap (λ l. has (take (length (delivered Env m journal)) l) block)
    (blocks_of_way gives net m 0 trace)
    ∙ ap (λ l. has l block) (blocks_before net m 0 trace (length (delivered Env m journal)))

pub has_more : (net : Network) (m : ℕ) (trace : List TraceItem) (i block : ℕ) (item : TraceItem)
    → slice_get trace i ≡ Some item
    → has (blocks_read net m 0 (take (suc i) trace)) block
    ≡ (has (blocks_read net m 0 (take i trace)) block
    || (is_read net m item && settles (take i trace) == block))
has_more net m trace i block item at =
    ap (λ l. has l block) (blocks_more net m 0 trace i item at)
    ∙ list_any-append (λ k. k == block) (blocks_read net m 0 (take i trace))
    (cond (is_read net m item) ((0 + settles (take i trace)) ∷ []) [])
    ∙ ap (λ t. has (blocks_read net m 0 (take i trace)) block || t) (own (is_read net m item))
  where
    place : 0 + settles (take i trace) ≡ settles (take i trace)
    place = omega arith

    last : (t : Bool) → (t || false) ≡ t
    last true = refl
    last false = refl

    own : (r : Bool) → has (cond r ((0 + settles (take i trace)) ∷ []) []) block
        ≡ (r && settles (take i trace) == block)
    own true = ap (λ k. has (k ∷ []) block) place ∙ last (settles (take i trace) == block)
    own false = refl

-- a place is one of the list's, or its length
place_within : {X : Type 0} (p : X → Bool) (xs : List X) (k : ℕ) → nth_place p xs k ≤ length xs
place_within p [] k = omega arith
place_within {X} p (x ∷ xs) zero = cases (p x) (place_within p xs 0)
  where
    cases : (r : Bool) → nth_place p xs 0 ≤ length xs
        → cond r 0 (suc (nth_place p xs 0)) ≤ suc (length xs)
    cases true low = omega arith
    cases false low = omega arith
place_within {X} p (x ∷ xs) (suc k) =
    cases (p x) (place_within p xs k) (place_within p xs (suc k))
  where
    cases : (r : Bool) → nth_place p xs k ≤ length xs → nth_place p xs (suc k) ≤ length xs
        → suc (nth_place p xs (cond r k (suc k))) ≤ suc (length xs)
    cases true here later = omega arith
    cases false here later = omega arith

pub cursor_within : (net : Network) (trace : List TraceItem) (journal : List Entry) (m : ℕ)
    → cursor net trace journal m ≤ length trace
cursor_within net trace journal m =
    place_within (is_read net m) trace (length (delivered Env m journal))

-- one item more is looked at
pub came_more : (net : Network) (m : ℕ) (trace : List TraceItem) (i block : ℕ) (came here : Bool)
    → i < length trace → came ≡ has (blocks_read net m 0 (take i trace)) block
    → ((item : TraceItem) → slice_get trace i ≡ Some item
    → here ≡ (is_read net m item && settles (take i trace) == block))
    → (came || here) ≡ has (blocks_read net m 0 (take (i + 1) trace)) block
came_more net m trace i block came here below before own =
    elim (slice_get_cases trace i).1 [
      | inl (item, inside, at, same) ↦
          rw add-one
          (ap (λ t. t || here) before
          ∙ ap (λ t. has (blocks_read net m 0 (take i trace)) block || t) (own item at)
          ∙ sym (has_more net m trace i block item at))
      | inr (past, none) ↦ absurd (omega arith)
    ]

-- one number more is tried
pub any_more : (p : ℕ → Bool) (n : ℕ) (before here : Bool) → before ≡ list_any p (upto n)
    → here ≡ p n → (before || here) ≡ list_any p (upto (n + 1))
any_more p n before here so_far own =
    rw add-one
    (ap (λ t. t || here) so_far ∙ ap (λ t. list_any p (upto n) || t) (own ∙ sym (last (p n)))
    ∙ sym (list_any-append p (upto n) (n ∷ [])))
  where
    last : (t : Bool) → (t || false) ≡ t
    last true = refl
    last false = refl

-- the item at a place of the trace that was read
pub of_block : (net : Network) (m : ℕ) (trace lent : List TraceItem) (place block : ℕ)
    (item found : TraceItem) (read : Bool) (own : ℕ) → lent ≡ trace
    → slice_get lent place ≡ Some found → slice_get trace place ≡ Some item
    → read ≡ is_read net m found → own ≡ settles (take place lent)
    → (read && own == block) ≡ (is_read net m item && settles (take place trace) == block)
of_block net m trace lent place block item found read own whole at is reads_it counts =
    let there : slice_get trace place ≡ Some found =
    ap (λ t. slice_get t place) (sym whole) ∙ at in
    let same : found ≡ item = cc in
    ap (λ b. b && own == block) (reads_it ∙ ap (is_read net m) same)
    ∙ ap (λ k. is_read net m item && k == block) (counts ∙ ap (λ t. settles (take place t)) whole)
