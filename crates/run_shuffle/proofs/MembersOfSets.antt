-- The members of sets, and what one number more or another makes of them.
use Rattle.std.proofs.Common.{◌≡◌, ◌≢◌, ℕ, zero, suc, ◌+◌, ◌<◌, ◌≤◌, Bool, true, false, cond, not, ◌&&◌, ◌==◌, nat_lt, List, [], ◌∷◌, ◌++◌, filter, length, length-drop, drop, slice_get, Some, refl, sym, ap, ◌∙◌, subst, inl, inr, arith}
use Rattle.std.specs.Int.{bit_at}
use Rattle.std.specs.List.{Contains}
use Rattle.std.proofs.lemmas.Bool.{cases_eq, cases_lt, eq-eqb, lt-ltb, le-ltb, ne_eqb}
use Rattle.std.proofs.lemmas.List.{append-nil}
use Rattle.std.proofs.lemmas.Nat.Bits.{bit_at-zero}
use Rattle.polis_base.specs.Lists.{head_of, upto}
use Rattle.polis_base.proofs.Lists.{none_below, one_more, same_below}
use Rattle.polis_base.proofs.SmallSets.{without_same, without_others}
use Rattle.polis_base.proofs.Members.{here, of_filter}
use Rattle.journals.specs.Schedules.{without_first}
use Rattle.polis_base.specs.Sets.{members}
use Rattle.net_core.proofs.Bitsets.{none_past, without_one}
use Rattle.run_shuffle.proofs.Few.{passing_few}
use Rattle.run_shuffle.specs.inner.Ways.{IsSetOf}
use Rattle.polis_base.proofs.UptoPlaces.{length_upto}

-- the members are the numbers that pass
pub members_are : (n : ℕ) (p : ℕ → Bool) (set : ℕ) → n ≤ 64 → IsSetOf n p set
    → members set ≡ filter p (upto n)
unfolding members
members_are n p set few is =
    same_below (λ m. bit_at set m == 1) (λ m. nat_lt m n && p m) 64 (λ m below. is m below)
    ∙ none_past (λ m. nat_lt m n && p m) n 64 few
    (λ m past. ap (λ b. b && p m) (le-ltb m n past))
    ∙ same_below (λ m. nat_lt m n && p m) p n
    (λ m below. ap (λ b. b && p m) (lt-ltb m n below))

pub no_members : members 0 ≡ []
unfolding members
no_members = none_below (λ m. bit_at 0 m == 1) 64 (λ m below. ap (λ b. b == 1) (bit_at-zero m))

one_passes : (m n : ℕ) → m < n → filter (λ k. k == m) (upto n) ≡ m ∷ []
one_passes m zero within = absurd (omega arith)
one_passes m (suc n) within =
    one_more (λ k. k == m) n
    ∙ (elim (cases_eq n m) [
      | inl same ↦
          ap (λ l. l ++ cond (n == m) (n ∷ []) [])
          (none_below (λ k. k == m) n (λ k below. ne_eqb k m (λ e. absurd (omega arith))))
          ∙ ap (λ b. cond b (n ∷ []) []) (eq-eqb n m same)
          ∙ ap (λ k. k ∷ []) same
      | inr other ↦
          ap (λ b. filter (λ k. k == m) (upto n) ++ cond b (n ∷ []) []) (ne_eqb n m other)
          ∙ append-nil (filter (λ k. k == m) (upto n))
          ∙ one_passes m n (let apart : n ≢ m = other in omega arith)
    ])

-- the set of one machine
pub only_member : (m n set : ℕ) → m < n → n ≤ 64 → bit_at set m ≡ 1
    → ((k : ℕ) → k ≢ m → bit_at set k ≡ bit_at 0 k) → members set ≡ m ∷ []
unfolding members
only_member m n set within few own others =
    same_below (λ k. bit_at set k == 1) (λ k. k == m) 64 (λ k below.
    elim (cases_eq k m) [
      | inl same ↦
          ap (λ j. bit_at set j == 1) same ∙ ap (λ b. b == 1) own ∙ sym (eq-eqb k m same)
      | inr other ↦
          ap (λ b. b == 1) (others k other ∙ bit_at-zero k) ∙ sym (ne_eqb k m other)
    ])
    ∙ one_passes m 64 (omega arith)

-- ---- one number more or another

-- the set of none
pub set_none : (n : ℕ) (p : ℕ → Bool) → ((m : ℕ) → p m ≡ false) → IsSetOf n p 0
set_none n p none k below =
    ap (λ b. b == 1) (bit_at-zero k) ∙ sym (ap (λ b. nat_lt k n && b) (none k) ∙ no (nat_lt k n))
  where
    no : (b : Bool) → (b && false) ≡ false
    no true = refl
    no false = refl

pub set_more : (p : ℕ → Bool) (n old new : ℕ) → IsSetOf n p old → (bit_at new n == 1) ≡ p n
    → ((k : ℕ) → k ≢ n → bit_at new k ≡ bit_at old k) → IsSetOf (n + 1) p new
set_more p n old new were own others k below =
    elim (cases_eq k n) [
      | inl same ↦
          ap (λ j. bit_at new j == 1) same ∙ own ∙ sym (ap p same)
          ∙ sym (ap (λ b. b && p k) (lt-ltb k (n + 1) (omega arith)))
      | inr other ↦
          ap (λ b. b == 1) (others k other) ∙ were k below
          ∙ ap (λ b. b && p k) (same_side other)
    ]
  where
    same_side : k ≢ n → nat_lt k n ≡ nat_lt k (n + 1)
    same_side apart = elim (cases_lt k n) [
      | inl low ↦ lt-ltb k n low ∙ sym (lt-ltb k (n + 1) (omega arith))
      | inr past ↦ le-ltb k n past ∙ sym (le-ltb k (n + 1) (omega arith))
    ]

pub set_changed : (p q : ℕ → Bool) (n m old new : ℕ) → m < n → IsSetOf n p old
    → (bit_at new m == 1) ≡ q m → ((k : ℕ) → k < 64 → k ≢ m → bit_at new k ≡ bit_at old k)
    → ((k : ℕ) → k ≢ m → q k ≡ p k) → IsSetOf n q new
set_changed p q n m old new within were own others same k below =
    elim (cases_eq k m) [
      | inl is ↦
          ap (λ j. bit_at new j == 1) is ∙ own ∙ sym (ap q is)
          ∙ sym (ap (λ b. b && q k) (lt-ltb k n (omega arith)))
      | inr other ↦
          ap (λ b. b == 1) (others k below other) ∙ were k below
          ∙ ap (λ b. nat_lt k n && b) (sym (same k other))
    ]

pub set_stays : (p q : ℕ → Bool) (n set : ℕ) → IsSetOf n p set → ((k : ℕ) → q k ≡ p k)
    → IsSetOf n q set
set_stays p q n set were same k below =
    were k below ∙ ap (λ b. nat_lt k n && b) (sym (same k))

-- ---- how many there are

pub members_few : (set : ℕ) → length (members set) ≤ 64
unfolding members
members_few set =
    let all = passing_few (λ m. bit_at set m == 1) (upto 64) in
    let size = length_upto 64 in
    omega (arith, all, size)

-- ---- one member after another

head_is : (xs : List ℕ) (x : ℕ) → head_of xs ≡ Some x → Contains xs x
head_is [] x none = cc
head_is (y ∷ xs) x is =
    let same : y ≡ x = cc in subst (λ z. Contains (y ∷ xs) z) same (here y xs)

cut_head : (xs : List ℕ) (x : ℕ) → head_of xs ≡ Some x
    → without_first (λ k. k == x) xs ≡ drop 1 xs
cut_head [] x none = refl
cut_head (y ∷ xs) x is =
    let same : y ≡ x = cc in
    ap (λ b. cond b xs (y ∷ without_first (λ k. k == x) xs)) (eq-eqb y x same)

-- without it the set has the others
pub without_lowest : (left lowest new : ℕ) → head_of (members left) ≡ Some lowest
    → lowest < 64
    → ((k : ℕ) → (bit_at new k == 1) ≡ (not (k == lowest) && bit_at left k == 1))
    → members new ≡ drop 1 (members left)
unfolding members
without_lowest left lowest new first within is =
    sym
    (without_one (λ k. bit_at left k == 1) (λ k. bit_at new k == 1) lowest 64 within
    (of_filter (λ k. bit_at left k == 1) (upto 64) lowest (head_is (members left) lowest first)).1
    (ap (λ b. b == 1) (without_same new left lowest is))
    (λ k below other. ap (λ b. b == 1) (without_others new left lowest is k other)))
    ∙ cut_head (members left) lowest first

-- where some are left the word isn't 0
pub some_left : (set left k : ℕ) → members left ≡ drop k (members set)
    → k < length (members set) → 0 < left
some_left set zero k is below =
    let size = length-drop k (members set) in
    let none : length (drop k (members set)) ≡ 0 = ap length (sym is ∙ no_members) in
    absurd (omega arith)
some_left set (suc left) k is below = omega arith

-- the first of what is left after so many is that of this number
pub first_left : (xs : List ℕ) (k x : ℕ) → head_of (drop k xs) ≡ Some x → slice_get xs k ≡ Some x
first_left [] zero x first = cc
first_left [] (suc k) x first = cc
first_left (y ∷ xs) zero x first = first
first_left (y ∷ xs) (suc k) x first = first_left xs k x first
