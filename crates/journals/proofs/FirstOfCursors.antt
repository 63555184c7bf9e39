-- The first delivery that the environment owes, by the cursors of the machines.
use Rattle.std.specs.Prelude.{◌≡◌, ℕ, zero, suc, ◌<◌, ◌≤◌, Bool, true, false, cond, List, [], ◌∷◌, filter, filter_map, length, take, slice_get, Some}
use Rattle.std.proofs.Common.{refl, ap, subst, arith}
use Rattle.std.proofs.lemmas.List.{take_all}
use Rattle.std.proofs.lemmas.Bool.{false≢true}
use Rattle.std.proofs.lemmas.Option.{slice_get_within}
use Rattle.transition_table.specs.declared.decl.Party.TheVariants.{Env}
use Rattle.transition_table.specs.declared.network.Network.{Network}
use Rattle.journals.specs.declared.entry.Entry.{Entry}
use Rattle.journals.specs.declared.entry.TraceItem.{TraceItem}
use Rattle.journals.specs.declared.entry.TraceItem.TheVariants.{Event, Settle}
use Rattle.journals.specs.Journals.{reads, event_of, delivered}
use Rattle.journals.specs.Schedules.{owed_by_env}
use Rattle.journals.specs.Cursors.{is_read, nth_place, cursor, settled_at}
use Rattle.journals.proofs.OwedByEnv.{reads_in, first_of_env_at, env_owes_nothing}
use Rattle.polis_base.specs.Lists.{head_of}

-- no more than n pass before the place after n that pass
few_before : {X : Type 0} (p : X → Bool) (xs : List X) (n i : ℕ) → i ≤ nth_place p xs n
    → length (filter p (take i xs)) ≤ n
few_before p [] n zero h = omega arith
few_before p [] n (suc i) h = omega arith
few_before p (x ∷ xs) n zero h = omega arith
few_before p (x ∷ xs) zero (suc i) h =
    cases (p x) refl h (few_before p xs 0 i)
  where
    cases : (b : Bool) → p x ≡ b → suc i ≤ cond b 0 (suc (nth_place p xs 0))
        → (i ≤ nth_place p xs 0 → length (filter p (take i xs)) ≤ 0)
        → length (cond b (x ∷ filter p (take i xs)) (filter p (take i xs))) ≤ 0
    cases true is within rest = absurd (omega arith)
    cases false is within rest = rest (omega arith)
few_before p (x ∷ xs) (suc n) (suc i) h =
    cases (p x) h (few_before p xs n i) (few_before p xs (suc n) i)
  where
    cases : (b : Bool) → suc i ≤ suc (nth_place p xs (cond b n (suc n)))
        → (i ≤ nth_place p xs n → length (filter p (take i xs)) ≤ n)
        → (i ≤ nth_place p xs (suc n) → length (filter p (take i xs)) ≤ suc n)
        → length (cond b (x ∷ filter p (take i xs)) (filter p (take i xs))) ≤ suc n
    cases true within own other = let few = own (omega arith) in omega arith
    cases false within own other = other (omega arith)

-- n pass before it, where it is a place of the list
all_before : {X : Type 0} (p : X → Bool) (xs : List X) (n : ℕ) → nth_place p xs n < length xs
    → n ≤ length (filter p (take (nth_place p xs n) xs))
all_before p xs zero h = omega arith
all_before p [] (suc n) h = absurd (omega arith)
all_before p (x ∷ xs) (suc n) h = cases (p x) h (all_before p xs n) (all_before p xs (suc n))
  where
    cases : (b : Bool) → suc (nth_place p xs (cond b n (suc n))) < suc (length xs)
        → (nth_place p xs n < length xs → n ≤ length (filter p (take (nth_place p xs n) xs)))
        → (nth_place p xs (suc n) < length xs
        → suc n ≤ length (filter p (take (nth_place p xs (suc n)) xs)))
        → suc n
        ≤ length
        (cond b (x ∷ filter p (take (nth_place p xs (cond b n (suc n))) xs))
        (filter p (take (nth_place p xs (cond b n (suc n))) xs)))
    cases true within own other = let all = own (omega arith) in omega arith
    cases false within own other = other (omega arith)

-- the item there passes
passes_at_place : {X : Type 0} (p : X → Bool) (xs : List X) (n : ℕ) (y : X)
    → slice_get xs (nth_place p xs n) ≡ Some y → p y ≡ true
passes_at_place p [] n y h = cc
passes_at_place p (x ∷ xs) zero y h = cases (p x) refl h (passes_at_place p xs 0 y)
  where
    cases : (b : Bool) → p x ≡ b → slice_get (x ∷ xs) (cond b 0 (suc (nth_place p xs 0))) ≡ Some y
        → (slice_get xs (nth_place p xs 0) ≡ Some y → p y ≡ true) → p y ≡ true
    cases true is at rest = let same : x ≡ y = cc in subst (λ z. p z ≡ true) same is
    cases false is at rest = rest at
passes_at_place p (x ∷ xs) (suc n) y h =
    cases (p x) h (passes_at_place p xs n y) (passes_at_place p xs (suc n) y)
  where
    cases : (b : Bool) → slice_get xs (nth_place p xs (cond b n (suc n))) ≡ Some y
        → (slice_get xs (nth_place p xs n) ≡ Some y → p y ≡ true)
        → (slice_get xs (nth_place p xs (suc n)) ≡ Some y → p y ≡ true) → p y ≡ true
    cases true at own other = own at
    cases false at own other = other at

-- the items that a machine reads are the events of them
reads_in_is : (net : Network) (m : ℕ) (items : List TraceItem)
    → reads_in net m items ≡ length (filter (is_read net m) items)
reads_in_is net m [] = refl
reads_in_is net m (Settle ∷ items) = reads_in_is net m items
reads_in_is net m (Event e c ∷ items) =
    let rest = reads_in_is net m items in
    elim
    (reads net m e) as (λ b.
    length
    (cond b ((e, c) ∷ filter (λ p. reads net m p.0) (filter_map event_of items))
    (filter (λ p. reads net m p.0) (filter_map event_of items)))
    ≡ length (cond b (Event e c ∷ filter (is_read net m) items) (filter (is_read net m) items))) [
      | true ↦ ap suc rest
      | false ↦ rest
    ]

made_before : (net : Network) (trace : List TraceItem) (journal : List Entry) (k i : ℕ)
    → i ≤ cursor net trace journal k
    → reads_in net k (take i trace) ≤ length (delivered Env k journal)
made_before net trace journal k i within =
    let same = reads_in_is net k (take i trace) in
    let few = few_before (is_read net k) trace (length (delivered Env k journal)) i within in
    omega arith

-- Where the cursor of m is the least, m being the first machine that has it, its item is the first
-- delivery that the
-- environment owes. It is held back exactly where the item before it is `settle`.
pub first_by_cursors : (net : Network) (trace : List TraceItem) (journal : List Entry)
    (m e code : ℕ)
    → ((k : ℕ) → k < length net.machines → cursor net trace journal m ≤ cursor net trace journal k)
    → ((k : ℕ) → k < m → cursor net trace journal m < cursor net trace journal k)
    → slice_get trace (cursor net trace journal m) ≡ Some (Event e code)
    → head_of (owed_by_env net trace journal)
    ≡ Some (
      record { from = Env; to = m; event = e; code = code },
      settled_at trace
          (cursor net trace journal m),
    )
first_by_cursors net trace journal m e code least first is =
    first_of_env_at net trace journal (cursor net trace journal) m e code
    (λ k i below within. made_before net trace journal k i within) least first is
    (passes_at_place (is_read net m) trace (length (delivered Env m journal)) (Event e code) is)
    (let within = slice_get_within trace (cursor net trace journal m) (Event e code) is in
    let all = all_before (is_read net m) trace (length (delivered Env m journal)) within in
    let same = reads_in_is net m (take (cursor net trace journal m) trace) in
    omega arith)

-- where each cursor is at the trace's end, the environment owes nothing
pub nothing_by_cursors : (net : Network) (trace : List TraceItem) (journal : List Entry)
    → ((k : ℕ) → k < length net.machines → length trace ≤ cursor net trace journal k)
    → owed_by_env net trace journal ≡ []
nothing_by_cursors net trace journal ends =
    env_owes_nothing net trace journal
    (λ k below.
    subst (λ l. reads_in net k l ≤ length (delivered Env k journal))
    (take_all (length trace) trace (omega arith))
    (made_before net trace journal k (length trace) (ends k below)))

-- there is no item but an event at a cursor
pub event_at_cursor : (net : Network) (trace : List TraceItem) (journal : List Entry) (m : ℕ)
    → slice_get trace (cursor net trace journal m) ≡ Some Settle → ⊥
event_at_cursor net trace journal m is =
    false≢true (passes_at_place (is_read net m) trace (length (delivered Env m journal)) Settle is)
