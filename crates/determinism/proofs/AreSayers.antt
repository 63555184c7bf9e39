-- Rows by what they say.
use Rattle.std.proofs.Common.{◌≡◌, ◌⊎◌, ◌<◌, ◌≤◌, ◌+◌, ◌-◌, ◌*◌, ◌/◌, ◌%◌, ◌==◌, ◌&&◌, ◌||◌, ℕ, zero, suc, Bool, true, false, not, cond, List, [], ◌∷◌, filter, length, length-append, slice_get, slice_index, slice_set, Some, replicate, arith, refl, sym, ◌∙◌, ap, inl, inr}
use Rattle.std.specs.Int.{bit_at}
use Rattle.std.proofs.lemmas.Bool.{and_parts, eqb-true, cases_lt, ne_eqb}
use Rattle.std.proofs.lemmas.Bool.Decides.{eqb_tells}
use Rattle.std.proofs.lemmas.List.{get_or-set_same, get_or-set_other, get_or-replicate, get_or_past, length-replicate}
use Rattle.std.proofs.lemmas.Nat.Bits.{bit_at-zero}
use Rattle.polis_base.specs.Lists.{upto}
use Rattle.polis_base.specs.Sets.{members}
use Rattle.polis_base.proofs.Lists.{one_more}
use Rattle.determinism.specs.declared.marks.Marks.{Marks}
use Rattle.determinism.specs.inner.Sayers.{AreSayers, HasAdded, IsFar}
use Rattle.transition_table.proofs.Bits.{alike}

-- a member of either set
pub of_either : (a b set i : ℕ) → (bit_at set i == 1) ≡ (bit_at a i == 1 || bit_at b i == 1)
    → bit_at set i ≡ 1 → (bit_at a i ≡ 1) ⊎ (bit_at b i ≡ 1)
of_either a b set i is there =
    elim (eqb_tells (bit_at a i) 1) [
      | inl here ↦ inl here.1
      | inr apart ↦ inr (eqb-true (bit_at b i) 1
          (sym (is ∙ ap (λ x. x || bit_at b i == 1) (ne_eqb (bit_at a i) 1 apart.1))
          ∙ alike (bit_at set i) 1 there))
    ]

-- a set without one of its members has no others, and fewer
pub of_less : (old new k : ℕ)
    → ((j : ℕ) → (bit_at new j == 1) ≡ (not (j == k) && bit_at old j == 1)) → (i : ℕ)
    → bit_at new i ≡ 1 → bit_at old i ≡ 1
of_less old new k is i there = eqb-true (bit_at old i) 1
    (and_parts (not (i == k)) (bit_at old i == 1) (sym (is i) ∙ alike (bit_at new i) 1 there)).1

abbrev one_long : Bool → ℕ → ℕ
one_long b n = length (cond b (n ∷ []) [])

filter_more : (p : ℕ → Bool) (n : ℕ)
    → length (filter p (upto (suc n))) ≡ length (filter p (upto n)) + one_long (p n) n
filter_more p n = ap length (one_more p n)
    ∙ length-append (filter p (upto n)) (cond (p n) (n ∷ []) [])

fewer_filtered : (p q : ℕ → Bool) (k : ℕ) → p k ≡ false → q k ≡ true
    → ((j : ℕ) → p j ≡ true → q j ≡ true) → (n : ℕ)
    → (length (filter p (upto n)) ≤ length (filter q (upto n)))
    × (k < n → length (filter p (upto n)) < length (filter q (upto n)))
fewer_filtered p q k out member inside zero = (omega arith, λ low. absurd (omega arith))
fewer_filtered p q k out member inside (suc n) =
    let rest = fewer_filtered p q k out member inside n in
    let most = rest.0 in
    let less = filter_more p n in
    let more = filter_more q n in
    let step = one_most (p n) (q n) (inside n) in (
      omega (arith, most, less, more, step),
      λ low. elim (cases_lt k n) [
        | inl before ↦ let strict = rest.1 before in omega (arith, strict, less, more, step)
        | inr past ↦
            let here : k ≡ n = omega arith in
            let none : one_long (p n) n ≡ 0 = ap (λ b. one_long b n) (ap p (sym here) ∙ out) in
            let one : one_long (q n) n ≡ 1 = ap (λ b. one_long b n) (ap q (sym here) ∙ member) in
            omega (arith, most, less, more, none, one)
      ],
    )
  where
    one_most : (a b : Bool) → (a ≡ true → b ≡ true) → one_long a n ≤ one_long b n
    one_most true true h = omega arith
    one_most true false h = cc (h refl)
    one_most false true h = omega arith
    one_most false false h = omega arith

pub fewer : (old new k : ℕ)
    → ((j : ℕ) → (bit_at new j == 1) ≡ (not (j == k) && bit_at old j == 1)) → k < 64
    → bit_at old k ≡ 1 → length (members new) < length (members old)
unfolding members
fewer old new k is low there =
    (fewer_filtered (λ j. bit_at new j == 1) (λ j. bit_at old j == 1) k
    (is k ∙ ap (λ b. not b && bit_at old k == 1) (alike k k refl)) (alike (bit_at old k) 1 there)
    (λ j set. (and_parts (not (j == k)) (bit_at old j == 1) (sym (is j) ∙ set)).1) 64).1 low

-- one set more with a row of its block, at the place that it says
pub added : (sayers : List ℕ) (row said place set : ℕ) → place < 64 → row < 512
    → length sayers ≡ 512 → bit_at said place ≡ 1
    → ((p : ℕ) → bit_at set p ≡ 1
    → (p ≡ row % 64) ⊎ (bit_at (slice_index sayers (row / 64 * 64 + place)) p ≡ 1))
    → HasAdded sayers (slice_set sayers (row / 64 * 64 + place) set) row said
added sayers row said place set low few long says only block other i below is =
    elim (eqb_tells (block * 64 + other) (row / 64 * 64 + place)) [
      | inl here ↦
          let same = here.1 in
          let own : other ≡ place = omega arith in
          let its : block ≡ row / 64 = omega arith in
          let within : row / 64 * 64 + place < length sayers = omega arith in
          let now : bit_at set i ≡ 1 =
          ap (λ n. bit_at n i) (sym (get_or-set_same sayers (row / 64 * 64 + place) set 0 within)
          ∙ ap (slice_index (slice_set sayers (row / 64 * 64 + place) set)) (sym same)) ∙ is in
          elim (only i now) [
            | inl last ↦ inr (omega (arith, last, its), ap (bit_at said) own ∙ says)
            | inr before ↦ inl (ap (λ n. bit_at (slice_index sayers n) i) same ∙ before)
          ]
      | inr apart ↦ inl
          (ap (λ n. bit_at n i) (sym (get_or-set_other sayers (row / 64 * 64 + place)
          (block * 64 + other) set 0 apart.1)) ∙ is)
    ]

-- and so one set after another
pub more_added : (first second third : List ℕ) (row said : ℕ) → HasAdded first second row said
    → HasAdded second third row said → HasAdded first third row said
more_added first second third row said before after block place i below is =
    elim (after block place i below is) [
      | inl here ↦ before block place i below here
      | inr new ↦ inr new
    ]

-- a row that is far says what is denied
pub far_row : (marks : List Marks) (sayers : List ℕ) (denied block i : ℕ) (of_row : Marks)
    → AreSayers marks sayers → IsFar sayers block denied i
    → slice_get marks (block * 64 + i) ≡ Some of_row
    → (place : ℕ) × (bit_at of_row.said place ≡ 1) × (bit_at denied place ≡ 1)
far_row marks sayers denied block i of_row are far at =
    (far.0, are.said block far.0 i of_row far.1 far.2 at, far.3)

-- nothing is said
pub none_said : (marks : List Marks) (sayers : List ℕ) → sayers ≡ replicate 512 0
    → AreSayers marks sayers
none_said marks sayers is = record {
  long = ap length is ∙ length-replicate {A = ℕ} 512 0;
  said = λ block place i of_row below set at. absurd (
      let none : slice_index sayers (block * 64 + place) ≡ 0 =
      ap (λ (s : List ℕ). slice_index s (block * 64 + place)) is
      ∙ nothing_there (block * 64 + place) in
      let clear = ap (λ n. bit_at n i) none ∙ bit_at-zero i in
      omega arith);
}
  where
    nothing_there : (k : ℕ) → slice_index (replicate 512 0) k ≡ 0
    nothing_there k =
        elim (cases_lt k 512) [
          | inl within ↦ get_or-replicate 512 k 0 0 within
          | inr past ↦ get_or_past (replicate 512 0) k 0
              (let long = length-replicate {A = ℕ} 512 0 in omega arith)
        ]

-- one more row
pub next_row : (marks : List Marks) (sayers next : List ℕ) (row : ℕ) (of_row : Marks)
    → AreSayers marks sayers → slice_get marks row ≡ Some of_row → length next ≡ 512
    → HasAdded sayers next row of_row.said → AreSayers marks next
next_row marks sayers next row of_row are here long more = record {
  long = long;
  said = λ block place i other below set at.
      elim (more block place i below set) [
        | inl before ↦ are.said block place i other below before at
        | inr new ↦
            let same : of_row ≡ other = cc (sym here, ap (slice_get marks) (sym new.0), at) in
            ap (λ (m : Marks). bit_at m.said place) (sym same) ∙ new.1
      ];
}

-- a row in its block
in_block : (row k : ℕ) → row ≤ k → row / 64 * 64 + (row % 64 + (k - row)) ≡ k
in_block row k past = omega arith

-- so many rows from one on are far
pub far_rows : (marks : List Marks) (sayers : List ℕ) (denied row apart k : ℕ) (of_row : Marks)
    → AreSayers marks sayers
    → ((i : ℕ) → i < apart → IsFar sayers (row / 64) denied (row % 64 + i)) → row ≤ k
    → k < row + apart → slice_get marks k ≡ Some of_row
    → (place : ℕ) × (bit_at of_row.said place ≡ 1) × (bit_at denied place ≡ 1)
far_rows marks sayers denied row apart k of_row are far past below at =
    far_row marks sayers denied (row / 64) (row % 64 + (k - row)) of_row are
    (far (k - row) (omega arith)) (ap (slice_get marks) (in_block row k past) ∙ at)
