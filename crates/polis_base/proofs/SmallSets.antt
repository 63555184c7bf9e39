-- Sets of numbers below 64: what the operations on their bits leave, their least member and how many
-- they have.
use Rattle.std.proofs.Common.{◌≡◌, ◌≢◌, ℕ, zero, suc, ◌+◌, ◌-◌, ◌*◌, ◌%◌, ◌^◌, ◌<◌, Bool, true, false, cond, not, ◌&&◌, ◌||◌, ◌==◌, nat_lt, List, [], ◌∷◌, ◌++◌, filter, length, length-append, Some, min, max, bit_and, bit_or, refl, sym, ap, ◌∙◌, inl, inr, arith}
use Rattle.std.specs.Int.{bit_at, bit_not, trailing_zeros, w64}
use Rattle.std.specs.Int.Count.{ones}
use Rattle.std.proofs.Math.Nat.{mod-lt, mod-eq_of_lt}
use Rattle.std.proofs.Math.Pow.{pow-lt}
use Rattle.std.proofs.lemmas.Bool.{cases_Bool, cases_eq, cases_lt, eq-eqb, eqb-true, ne_eqb, ltb-true, ltb-false}
use Rattle.std.proofs.lemmas.Nat.{mod-pow-add, ones_cat, ones_le_self, pow_pos, zero_from_ones}
use Rattle.std.proofs.lemmas.Nat.Bits.{bit_at_and, bit_at_or, bit_at-lt, bit_at-zero, bit_at-pow_same, bit_at-pow_other, bit_at_ones, bit_at_ones_above, bit_at_above, bit_at_clear_same, bit_at_clear_other, bit_at-trailing_zeros, same_from_bits}
use Rattle.polis_base.specs.Lists.{head_of, upto}
use Rattle.polis_base.specs.Sets.{members}
use Rattle.polis_base.proofs.Lists.{one_more, none_below}

-- ---- single bits
least_of_bits : (x y : ℕ) → x < 2 → y < 2 → (min x y == 1) ≡ (x == 1 && y == 1)
least_of_bits zero zero a b = refl
least_of_bits zero (suc zero) a b = refl
least_of_bits (suc zero) zero a b = refl
least_of_bits (suc zero) (suc zero) a b = refl
least_of_bits (suc (suc x)) y a b = absurd (omega arith)
least_of_bits zero (suc (suc y)) a b = absurd (omega arith)
least_of_bits (suc zero) (suc (suc y)) a b = absurd (omega arith)

most_of_bits : (x y : ℕ) → x < 2 → y < 2 → (max x y == 1) ≡ (x == 1 || y == 1)
most_of_bits zero zero a b = refl
most_of_bits zero (suc zero) a b = refl
most_of_bits (suc zero) zero a b = refl
most_of_bits (suc zero) (suc zero) a b = refl
most_of_bits (suc (suc x)) y a b = absurd (omega arith)
most_of_bits zero (suc (suc y)) a b = absurd (omega arith)
most_of_bits (suc zero) (suc (suc y)) a b = absurd (omega arith)

pub both_bits : (a b i : ℕ) → (bit_at (bit_and a b) i == 1) ≡ (bit_at a i == 1 && bit_at b i == 1)
both_bits a b i = ap (λ n. n == 1) (bit_at_and a b i)
    ∙ least_of_bits (bit_at a i) (bit_at b i) (bit_at-lt a i) (bit_at-lt b i)

pub either_bits : (a b i : ℕ) → (bit_at (bit_or a b) i == 1) ≡ (bit_at a i == 1 || bit_at b i == 1)
either_bits a b i = ap (λ n. n == 1) (bit_at_or a b i)
    ∙ most_of_bits (bit_at a i) (bit_at b i) (bit_at-lt a i) (bit_at-lt b i)

pub no_bits : (n k : ℕ) → n ≡ 0 → (bit_at n k == 1) ≡ false
no_bits n k none = ap (λ i. bit_at i k == 1) none ∙ ap (λ i. i == 1) (bit_at-zero k)

-- a bit that is one, and one that isn't
pub bit_one : (n k : ℕ) → (bit_at n k == 1) ≡ true → bit_at n k ≡ 1
bit_one n k set = eqb-true (bit_at n k) 1 set

pub bit_none : (n k : ℕ) → (bit_at n k == 1) ≡ false → bit_at n k ≡ 0
bit_none n k clear = by (bit_at n k) (bit_at-lt n k) clear
  where
    by : (b : ℕ) → b < 2 → (b == 1) ≡ false → b ≡ 0
    by zero low clear = refl
    by (suc zero) low clear = cc
    by (suc (suc b)) low clear = absurd (omega arith)

digits : (x y : ℕ) → x < 2 → y < 2 → (x == 1) ≡ (y == 1) → x ≡ y
digits zero zero a b h = refl
digits zero (suc zero) a b h = cc
digits (suc zero) zero a b h = cc
digits (suc zero) (suc zero) a b h = refl
digits (suc (suc x)) y a b h = absurd (omega arith)
digits zero (suc (suc y)) a b h = absurd (omega arith)
digits (suc zero) (suc (suc y)) a b h = absurd (omega arith)

-- sets with the same members are one number
pub same_members : (a b : ℕ) → ((k : ℕ) → (bit_at a k == 1) ≡ (bit_at b k == 1)) → a ≡ b
same_members a b same = same_from_bits a b
    (λ k. digits (bit_at a k) (bit_at b k) (bit_at-lt a k) (bit_at-lt b k) (same k))

-- ---- one number more or less
pub shifted : (k : ℕ) → k < 64 → 1 * 2 ^ k % 18446744073709551616 ≡ 2 ^ k
shifted k within =
    let small : 2 ^ k < 2 ^ 64 = pow-lt {i = k} {j = 64} within in
    let own : 1 * 2 ^ k ≡ 2 ^ k = omega arith in
    ap (λ n. n % 18446744073709551616) own ∙ mod-eq_of_lt small

-- the set of one number
pub one_bit : (k j : ℕ) → (bit_at (2 ^ k) j == 1) ≡ (j == k)
one_bit k j = elim (cases_eq j k) [
  | inl same ↦
      let here : j ≡ k = same in
      ap (λ i. bit_at (2 ^ k) i == 1) here ∙ ap (λ b. b == 1) (bit_at-pow_same k)
      ∙ sym (eq-eqb j k here)
  | inr other ↦ ap (λ b. b == 1) (bit_at-pow_other k j other) ∙ sym (ne_eqb j k other)
]

turned : (a b : Bool) → (a || b) ≡ (b || a)
turned true true = refl
turned true false = refl
turned false true = refl
turned false false = refl

pub with_bit : (n k j : ℕ) → k < 64
    → (bit_at (bit_or n (1 * 2 ^ k % 18446744073709551616)) j == 1) ≡ (j == k || bit_at n j == 1)
with_bit n k j within =
    ap (λ x. bit_at (bit_or n x) j == 1) (shifted k within)
    ∙ either_bits n (2 ^ k) j
    ∙ ap (λ b. bit_at n j == 1 || b) (one_bit k j)
    ∙ turned (bit_at n j == 1) (j == k)

pub without_bit : (n k j : ℕ) → k < 64 → n < 2 ^ 64
    → (bit_at (bit_and n (bit_not w64 (1 * 2 ^ k % 18446744073709551616))) j == 1)
    ≡ (not (j == k) && bit_at n j == 1)
without_bit n k j within fits = elim (cases_eq j k) [
  | inl same ↦
      let here : j ≡ k = same in
      ap (λ i. bit_at left i == 1) here ∙ ap (λ b. b == 1) (bit_at_clear_same w64 n k within)
      ∙ sym (ap (λ b. not b && bit_at n j == 1) (eq-eqb j k here))
  | inr other ↦
      apart other ∙ sym (ap (λ b. not b && bit_at n j == 1) (ne_eqb j k other))
]
  where
    left : ℕ
    left = bit_and n (bit_not w64 (1 * 2 ^ k % 18446744073709551616))

    apart : j ≢ k → (bit_at left j == 1) ≡ (bit_at n j == 1)
    apart other = elim (cases_lt j 64) [
      | inl low ↦ ap (λ b. b == 1) (bit_at_clear_other w64 n k within j low other)
      | inr past ↦
          both_bits n (bit_not w64 (1 * 2 ^ k % 18446744073709551616)) j
          ∙ ap (λ b. b == 1 && bit_at (bit_not w64 (1 * 2 ^ k % 18446744073709551616)) j == 1)
          (bit_at_above n 64 j fits past)
          ∙ sym (ap (λ b. b == 1) (bit_at_above n 64 j fits past))
    ]

-- what one number more leaves
pub same_bit : (new old j : ℕ) → (bit_at new j == 1) ≡ (bit_at old j == 1) → bit_at new j ≡ bit_at old j
same_bit new old j h = digits (bit_at new j) (bit_at old j) (bit_at-lt new j) (bit_at-lt old j) h

pub with_same : (new old k : ℕ)
    → ((j : ℕ) → (bit_at new j == 1) ≡ (j == k || bit_at old j == 1)) → bit_at new k ≡ 1
with_same new old k is =
    bit_one new k (is k ∙ ap (λ b. b || bit_at old k == 1) (eq-eqb k k refl))

pub with_others : (new old k : ℕ)
    → ((j : ℕ) → (bit_at new j == 1) ≡ (j == k || bit_at old j == 1))
    → (j : ℕ) → j ≢ k → bit_at new j ≡ bit_at old j
with_others new old k is j apart =
    same_bit new old j (is j ∙ ap (λ b. b || bit_at old j == 1) (ne_eqb j k apart))

-- and one less
pub without_same : (new old k : ℕ)
    → ((j : ℕ) → (bit_at new j == 1) ≡ (not (j == k) && bit_at old j == 1)) → bit_at new k ≡ 0
without_same new old k is =
    bit_none new k (is k ∙ ap (λ b. not b && bit_at old k == 1) (eq-eqb k k refl))

pub without_others : (new old k : ℕ)
    → ((j : ℕ) → (bit_at new j == 1) ≡ (not (j == k) && bit_at old j == 1))
    → (j : ℕ) → j ≢ k → bit_at new j ≡ bit_at old j
without_others new old k is j apart =
    same_bit new old j (is j ∙ ap (λ b. not b && bit_at old j == 1) (ne_eqb j k apart))

-- ---- the numbers below a count
pub ones_below : (count k : ℕ) → (bit_at (2 ^ count - 1) k == 1) ≡ nat_lt k count
ones_below count k =
    elim (cases_Bool (nat_lt k count)) [
      | inl low ↦ ap (λ n. n == 1) (bit_at_ones count k (ltb-true k count low)) ∙ sym low
      | inr past ↦ ap (λ n. n == 1) (bit_at_ones_above count k (ltb-false k count past))
          ∙ sym past
    ]

pub first_bits : (count k : ℕ) → count < 64
    → (bit_at (1 * 2 ^ count % 18446744073709551616 - 1) k == 1) ≡ nat_lt k count
first_bits count k few =
    ap (λ n. bit_at (n - 1) k == 1) (shifted count few) ∙ ones_below count k

-- ---- the least member
head_more : (xs ys : List ℕ) (x : ℕ) → head_of xs ≡ Some x → head_of (xs ++ ys) ≡ Some x
head_more [] ys x h = cc
head_more (y ∷ xs) ys x h = h

-- the least that passes comes first
pub least_first : (p : ℕ → Bool) (j n : ℕ) → j < n → p j ≡ true → ((k : ℕ) → k < j → p k ≡ false)
    → head_of (filter p (upto n)) ≡ Some j
least_first p j zero within here before = absurd (omega arith)
least_first p j (suc n) within here before =
    ap head_of (one_more p n)
    ∙ (elim (cases_eq n j) [
      | inl same ↦
          let own : p n ≡ true = ap p same ∙ here in
          let none : filter p (upto n) ≡ [] =
          none_below p n (λ k below. before k (omega arith)) in
          ap (λ b. head_of (filter p (upto n) ++ cond b (n ∷ []) [])) own
          ∙ ap (λ l. head_of (l ++ n ∷ [])) none ∙ ap Some same
      | inr other ↦
          let apart : n ≢ j = other in
          head_more (filter p (upto n)) (cond (p n) (n ∷ []) []) j
          (least_first p j n (omega arith) here before)
    ])

pub lowest_first : (set : ℕ) → 0 < set → set < 2 ^ 64
    → head_of (members set) ≡ Some (trailing_zeros w64 set)
unfolding members
lowest_first set some fits =
    let lowest = bit_at-trailing_zeros w64 set some fits in
    least_first (λ k. bit_at set k == 1) (trailing_zeros w64 set) 64 lowest.0
    (ap (λ b. b == 1) lowest.1) (λ k below. ap (λ b. b == 1) (lowest.2 k below))

-- ---- how many there are
abbrev one_or_none : Bool → List ℕ
one_or_none b = cond b (0 ∷ []) []

ones_of_digit : (b : ℕ) → b < 2 → ones b ≡ length (one_or_none (b == 1))
ones_of_digit zero low = let few = ones_le_self 0 in omega arith
ones_of_digit (suc zero) low =
    let few = ones_le_self 1 in
    let some : ones 1 ≢ 0 = λ none.
    let no : ◌≡◌ {A = ℕ} 1 0 = zero_from_ones 1 none in omega arith in
    omega arith
ones_of_digit (suc (suc b)) low = absurd (omega arith)

ones_among : (n k : ℕ) → ones (n % 2 ^ k) ≡ length (filter (λ m. bit_at n m == 1) (upto k))
ones_among n zero =
    let low : n % 1 < 1 = mod-lt n (omega arith) in
    let none : n % 1 ≡ 0 = omega arith in
    ap ones none ∙ ones_of_digit 0 (omega arith)
ones_among n (suc k) =
    let more : suc k ≡ 1 + k = omega arith in
    let some : 0 < 2 ^ k = pow_pos k in
    let size =
    length-append (filter (λ m. bit_at n m == 1) (upto k))
    (cond (bit_at n k == 1) (k ∷ []) []) in
    let digit = ones_of_digit (bit_at n k) (bit_at-lt n k) in
    let rest = ones_among n k in
    let one = one_long (bit_at n k == 1) in
    ap (λ j. ones (n % 2 ^ j)) more ∙ ap ones (mod-pow-add n 1 k)
    ∙ ones_cat k (bit_at n k) (n % 2 ^ k) (mod-lt n some)
    ∙ omega (arith, size, digit, rest, one)
    ∙ sym (ap length (one_more (λ m. bit_at n m == 1) k))
  where
    one_long : (b : Bool) → length (cond b (k ∷ []) []) ≡ length (one_or_none b)
    one_long true = refl
    one_long false = refl

pub ones_are : (set : ℕ) → set < 2 ^ 64 → ones set ≡ length (members set)
unfolding members
ones_are set fits = ap ones (sym (mod-eq_of_lt fits)) ∙ ones_among set 64
