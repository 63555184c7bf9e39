-- How many lists of codes two rows allow, by the sets of the codes that they allow.
use Rattle.std.proofs.Common.{◌≡◌, ℕ, zero, suc, ◌+◌, ◌-◌, ◌*◌, ◌<◌, ◌≤◌, Bool, true, false, cond, eqb, nat_lt, List, [], ◌∷◌, ◌++◌, filter, length, drop, count_by, slice_get, slice_index, Option, Some, refl, sym, ap, ◌∙◌, inl, inr, arith, mul-le-mul}
use Rattle.std.specs.List.{list_all}
use Rattle.std.specs.Int.{bit_at}
use Rattle.std.proofs.lemmas.Bool.{and_left, cases_lt, le-ltb}
use Rattle.std.proofs.lemmas.List.{append-nil}
use Rattle.std.proofs.lemmas.List.Sums.{count_by-le-length, sum_by-cons}
use Rattle.std.proofs.lemmas.Option.{get_or_from_slice_get}
use Rattle.polis_base.specs.Lists.{upto}
use Rattle.polis_base.specs.Sets.{members}
use Rattle.polis_base.proofs.Lists.{one_more, same_below}
use Rattle.polis_base.proofs.Places.{drop_index}
use Rattle.polis_base.proofs.UptoPlaces.{length_upto}
use Rattle.domains.specs.Tables.{product}
use Rattle.transition_table.specs.RowCodes.{AreRowCodes, allows_code}
use Rattle.transition_table.specs.declared.machine.Machine.{Machine}
use Rattle.transition_table.specs.declared.row.Row.{Row}
use Rattle.transition_table.proofs.CodeSets.{machine_sizes, size_at}
use Rattle.table_use.specs.inner.Boxes.{allowed, allowed_by, both_allow, passing, passing_idle}
use Rattle.table_use.proofs.RowBoxes.{row_stands}

-- ---- a row's set of the codes of a variable

pub row_low : (m : Machine) (codes : List (List ℕ)) (i r : ℕ) → AreRowCodes m codes → i ≡ r
    → r < length m.rows → i < length codes
row_low m codes i r are at low = let long = are.long in omega arith

pub sets_long : (m : Machine) (codes : List (List ℕ)) (i r : ℕ) (sets : List ℕ)
    → AreRowCodes m codes → i ≡ r → r < length m.rows → slice_get codes i ≡ Some sets
    → length sets ≡ length m.vars
sets_long m codes i r sets are at low get =
    let row = row_stands m.rows r low in
    (are.each r row.0 sets row.1 (ap (slice_get codes) (sym at) ∙ get)).long

pub set_low : (m : Machine) (codes : List (List ℕ)) (i r var : ℕ) (sets : List ℕ)
    → AreRowCodes m codes → i ≡ r → r < length m.rows → slice_get codes i ≡ Some sets
    → var < length m.vars → var < length sets
set_low m codes i r var sets are at low get within =
    let long = sets_long m codes i r sets are at low get in omega arith

pub set_at : (m : Machine) (codes : List (List ℕ)) (i r var set : ℕ) (sets : List ℕ)
    → AreRowCodes m codes → i ≡ r → r < length m.rows → var < length m.vars
    → slice_get codes i ≡ Some sets → slice_get sets var ≡ Some set → (code : ℕ)
    → eqb (bit_at set code) 1 ≡ allowed m r var code
set_at m codes i r var set sets are at low within get there code =
    let row = row_stands m.rows r low in
    ap (λ n. eqb (bit_at n code) 1) (sym (get_or_from_slice_get sets var set 0 there))
    ∙ (are.each r row.0 sets row.1 (ap (slice_get codes) (sym at) ∙ get)).each var within code
    ∙ sym (ap (λ (o : Option Row). allowed_by m.vars o var code) row.1)

-- ---- how many codes both allow

pub codes_most : (test : ℕ → Bool) (n count : ℕ) → count ≡ count_by test (upto n) → count ≤ n
codes_most test n count is =
    let most = count_by-le-length test (upto n) in
    let long = length_upto n in
    omega arith

filtered : (test : ℕ → Bool) (xs : List ℕ) → length (filter test xs) ≡ count_by test xs
filtered test [] = refl
filtered test (x ∷ xs) =
    one (test x) (filtered test xs) ∙ sym (sum_by-cons (λ k. cond (test k) 1 0) x xs)
  where
    one : (b : Bool) → length (filter test xs) ≡ count_by test xs
        → length (cond b (x ∷ filter test xs) (filter test xs))
        ≡ cond b 1 0 + count_by test xs
    one true is = let e = is in omega arith
    one false is = let e = is in omega arith

none_past : (test : ℕ → Bool) (size n : ℕ) → size ≤ n → ((k : ℕ) → size ≤ k → test k ≡ false)
    → filter test (upto n) ≡ filter test (upto size)
none_past test size zero most past =
    let e : zero ≡ size = omega arith in ap (λ k. filter test (upto k)) e
none_past test size (suc n) most past =
    elim (cases_lt n size) [
      | inl below ↦
          let low : n < size = below in
          let e : suc n ≡ size = omega arith in ap (λ k. filter test (upto k)) e
      | inr over ↦
          let high : size ≤ n = over in
          one_more test n
          ∙ ap (λ b. filter test (upto n) ++ cond b (n ∷ []) []) (past n high)
          ∙ append-nil (filter test (upto n))
          ∙ none_past test size n high past
    ]

count_members : (test : ℕ → Bool) (set size : ℕ) → size ≤ 64
    → ((k : ℕ) → eqb (bit_at set k) 1 ≡ test k) → ((k : ℕ) → size ≤ k → test k ≡ false)
    → length (members set) ≡ count_by test (upto size)
unfolding members
count_members test set size few is past =
    ap (λ (l : List ℕ). length l)
    (same_below (λ k. eqb (bit_at set k) 1) test 64 (λ k low. is k) ∙ none_past test size 64 few
    past)
    ∙ filtered test (upto size)

-- a row allows no code past a variable's
none_allowed : (m : Machine) (r var code : ℕ) → r < length m.rows → slice_index m.vars var ≤ code
    → allowed m r var code ≡ false
none_allowed m r var code low past =
    let row = row_stands m.rows r low in
    ap (λ (o : Option Row). allowed_by m.vars o var code) row.1
    ∙ and_left (nat_lt code (slice_index m.vars var))
    (list_all (allows_code var code) row.0.conds) (le-ltb code (slice_index m.vars var) past)

pub count_both : (m : Machine) (r k var set count : ℕ) → r < length m.rows → var < length m.vars
    → ((code : ℕ) → eqb (bit_at set code) 1 ≡ both_allow m r k var code)
    → count ≡ length (members set)
    → count ≡ count_by (both_allow m r k var) (upto (slice_index m.vars var))
count_both m r k var set count low within is many =
    let few = (size_at m.vars var (machine_sizes m) within).1 in
    many
    ∙ count_members (both_allow m r k var) set (slice_index m.vars var) (omega arith) is
    (λ code past.
    and_left (allowed m r var code) (allowed m k var code) (none_allowed m r var code low past))

-- ---- lists of them

pub passing_here : (test : ℕ → ℕ → Bool) (sizes : List ℕ) (i : ℕ) → i < length sizes
    → passing test i (drop i sizes)
    ≡ count_by (test i) (upto (slice_index sizes i)) * passing test (i + 1) (drop (i + 1) sizes)
passing_here test sizes i low = ap (passing test i) (drop_index sizes i low)

pub passing_few : (test : ℕ → ℕ → Bool) (n : ℕ) (sizes : List ℕ)
    → passing test n sizes ≤ product sizes
passing_few test n [] = omega arith
passing_few test n (size ∷ sizes) =
    mul-le-mul (codes_most (test n) size (count_by (test n) (upto size)) refl)
    (passing_few test (n + 1) sizes)

pub idle_here : (test : ℕ → ℕ → Bool) (sizes : List ℕ) (n i : ℕ) → i < n → i < length sizes
    → passing_idle test (n - i) i (drop i sizes)
    ≡ cond (test i 0) (passing_idle test (n - (i + 1)) (i + 1) (drop (i + 1) sizes)) 0
idle_here test sizes n i less low =
    (let e : n - i ≡ suc (n - (i + 1)) = omega arith in
    ap (λ (k : ℕ). passing_idle test k i (drop i sizes)) e)
    ∙ ap (passing_idle test (suc (n - (i + 1))) i) (drop_index sizes i low)

pub idle_past : (test : ℕ → ℕ → Bool) (sizes : List ℕ) (n i : ℕ) → i ≡ n
    → passing_idle test (n - i) i (drop i sizes) ≡ passing test i (drop i sizes)
idle_past test sizes n i end =
    let e : n - i ≡ 0 = omega arith in
    ap (λ (k : ℕ). passing_idle test k i (drop i sizes)) e
