-- Sets of numbers below 512: the numbers below a count, what is in both of two, and the first of
-- these.
use Rattle.std.proofs.Common.{◌≡◌, ◌≢◌, ℕ, zero, suc, ◌+◌, ◌*◌, ◌/◌, ◌%◌, ◌<◌, ◌≤◌, Bool, true, false, cond, ◌&&◌, ◌||◌, ◌==◌, nat_lt, List, [], ◌∷◌, ◌++◌, filter, length, slice_get, slice_index, None, Some, refl, sym, ap, ◌∙◌, inl, inr, arith}
use Rattle.std.specs.Int.{bit_at}
use Rattle.std.proofs.lemmas.Bool.{cases_eq, cases_lt, eq-eqb, lt-ltb, le-ltb, ne_eqb}
use Rattle.std.proofs.lemmas.List.{append-nil}
use Rattle.polis_base.specs.Lists.{head_of, upto}
use Rattle.polis_base.specs.Sets.{IsBoth, has_member, members_of}
use Rattle.polis_base.proofs.Lists.{one_more, same_below, none_below}
use Rattle.polis_base.proofs.Places.{index_past}
use Rattle.polis_base.proofs.SmallSets.{least_first, no_bits}

-- ---- lists of numbers that pass
pub filter_twice : (p q : ℕ → Bool) (xs : List ℕ)
    → filter q (filter p xs) ≡ filter (λ x. p x && q x) xs
filter_twice p q [] = refl
filter_twice p q (x ∷ xs) = cases (p x) (filter_twice p q xs)
  where
    cases : (b : Bool) → filter q (filter p xs) ≡ filter (λ x. p x && q x) xs
        → filter q (cond b (x ∷ filter p xs) (filter p xs))
        ≡ cond (b && q x) (x ∷ filter (λ x. p x && q x) xs) (filter (λ x. p x && q x) xs)
    cases true rest = ap (λ (l : List ℕ). cond (q x) (x ∷ l) l) rest
    cases false rest = rest

-- all below a bound pass
pub below_all : (n m : ℕ) → n ≤ m → filter (λ k. nat_lt k n) (upto m) ≡ upto n
below_all n zero most = let e : zero ≡ n = omega arith in ap upto e
below_all n (suc m) most =
    elim (cases_lt m n) [
      | inl below ↦
          let low : m < n = below in
          let e : suc m ≡ n = omega arith in
          all_pass (suc m) (λ k less. lt-ltb k n (omega arith)) ∙ ap upto e
      | inr past ↦
          let high : n ≤ m = past in
          one_more (λ k. nat_lt k n) m
          ∙ ap (λ b. filter (λ k. nat_lt k n) (upto m) ++ cond b (m ∷ []) []) (le-ltb m n high)
          ∙ append-nil (filter (λ k. nat_lt k n) (upto m))
          ∙ below_all n m high
    ]
  where
    all_pass : (i : ℕ) → ((k : ℕ) → k < i → nat_lt k n ≡ true)
        → filter (λ k. nat_lt k n) (upto i) ≡ upto i
    all_pass zero h = refl
    all_pass (suc i) h =
        one_more (λ k. nat_lt k n) i
        ∙ ap (λ l. l ++ cond (nat_lt i n) (i ∷ []) []) (all_pass i (λ k b. h k (omega arith)))
        ∙ ap (λ b. upto i ++ cond b (i ∷ []) []) (h i (omega arith))

head_at : (xs : List ℕ) → slice_get xs 0 ≡ head_of xs
head_at [] = refl
head_at (x ∷ xs) = refl

-- ---- the numbers below a count
pub below_next : (j k : ℕ) → (j == k || nat_lt j k) ≡ nat_lt j (k + 1)
below_next j k = elim (cases_eq j k) [
  | inl same ↦
      let here : j ≡ k = same in
      ap (λ b. b || nat_lt j k) (eq-eqb j k here) ∙ sym (lt-ltb j (k + 1) (omega arith))
  | inr other ↦
      let apart : j ≢ k = other in
      ap (λ b. b || nat_lt j k) (ne_eqb j k apart) ∙ (elim (cases_lt j k) [
        | inl below ↦
            let low : j < k = below in
            lt-ltb j k low ∙ sym (lt-ltb j (k + 1) (omega arith))
        | inr past ↦
            let high : k ≤ j = past in
            let more : k + 1 ≤ j = omega (arith, apart) in
            le-ltb j k high ∙ sym (le-ltb j (k + 1) more)
      ])
]

pub members_below : (set : List ℕ) (count : ℕ) → count ≤ 512
    → ((k : ℕ) → has_member set k ≡ nat_lt k count) → members_of set ≡ upto count
unfolding members_of
members_below set count few each =
    same_below (has_member set) (λ k. nat_lt k count) 512 (λ k low. each k)
    ∙ below_all count 512 few

-- ---- what is in both
pub members_both : (a b set : List ℕ) → IsBoth a b set
    → members_of set ≡ filter (has_member b) (members_of a)
unfolding members_of
members_both a b set both =
    same_below (has_member set) (λ k. has_member a k && has_member b k) 512 (λ k low. both k)
    ∙ sym (filter_twice (has_member a) (has_member b) (upto 512))

pub both_each : (a b words : List ℕ) → length words ≡ length a
    → ((k i : ℕ) → k < length a → (bit_at (slice_index words k) i == 1)
    ≡ (bit_at (slice_index a k) i == 1 && bit_at (slice_index b k) i == 1)) → IsBoth a b words
both_each a b words long each = λ k.
    elim (cases_lt (k / 64) (length a)) [
      | inl below ↦ each (k / 64) (k % 64) below
      | inr past ↦
          let high : length a ≤ k / 64 = past in
          no_bits (slice_index words (k / 64)) (k % 64) (index_past words (k / 64) (omega arith))
          ∙ sym (ap (λ p. p && has_member b k)
          (no_bits (slice_index a (k / 64)) (k % 64) (index_past a (k / 64) high)))
    ]

-- the first is the least of the first word that has one
pub first_found : (a b : List ℕ) (w least : ℕ) → w < 8 → least < 64
    → ((k i : ℕ) → k < w
    → (bit_at (slice_index a k) i == 1 && bit_at (slice_index b k) i == 1) ≡ false)
    → (bit_at (slice_index a w) least == 1 && bit_at (slice_index b w) least == 1) ≡ true
    → ((i : ℕ) → i < least
    → (bit_at (slice_index a w) i == 1 && bit_at (slice_index b w) i == 1) ≡ false)
    → slice_get (filter (has_member b) (members_of a)) 0 ≡ Some (64 * w + least)
unfolding members_of
first_found a b w least inside small earlier here before =
    let r = 64 * w + least in
    let at : r / 64 ≡ w = omega arith in
    let place : r % 64 ≡ least = omega arith in
    ap (λ (xs : List ℕ). slice_get xs 0) (filter_twice (has_member a) (has_member b) (upto 512))
    ∙ head_at (filter (λ k. has_member a k && has_member b k) (upto 512))
    ∙ least_first (λ k. has_member a k && has_member b k) r 512 (omega arith)
    (ap (λ k. in_word k (r % 64)) at ∙ ap (in_word w) place ∙ here)
    (λ k below. elim (cases_eq (k / 64) w) [
      | inl same ↦
          let word : k / 64 ≡ w = same in
          ap (λ i. in_word i (k % 64)) word ∙ before (k % 64) (omega arith)
      | inr other ↦
          let apart : k / 64 ≢ w = other in
          earlier (k / 64) (k % 64) (omega arith)
    ])
  where
    in_word : ℕ → ℕ → Bool
    in_word k i = bit_at (slice_index a k) i == 1 && bit_at (slice_index b k) i == 1

pub none_found : (a b : List ℕ)
    → ((k i : ℕ) → k < 8
    → (bit_at (slice_index a k) i == 1 && bit_at (slice_index b k) i == 1) ≡ false)
    → slice_get (filter (has_member b) (members_of a)) 0 ≡ None
unfolding members_of
none_found a b none =
    ap (λ (xs : List ℕ). slice_get xs 0)
    (filter_twice (has_member a) (has_member b) (upto 512)
    ∙ none_below (λ k. has_member a k && has_member b k) 512
    (λ k below. none (k / 64) (k % 64) (omega arith)))
