-- Codes that are their variables' greatest, from the last one on.
use Rattle.std.proofs.Common.{◌≡◌, ℕ, zero, suc, ◌+◌, ◌<◌, ◌≤◌, true, ◌&&◌, nat_lt, nat_le, List, [], ◌∷◌, length, drop, slice_get, Some, arith, refl}
use Rattle.std.specs.Cmp.Derive.{both_true}
use Rattle.std.proofs.lemmas.Bool.{eq-eqb, ltb-true, leb-true, and_parts}
use Rattle.std.proofs.lemmas.Option.{same_Some}
use Rattle.domains.specs.Tables.{fits, are_sizes, are_greatest}

-- after the last place there is nothing
pub greatest_none : (sizes codes : List ℕ) → length codes ≡ length sizes
    → are_greatest (drop (length sizes) sizes) (drop (length sizes) codes) ≡ true
greatest_none [] [] e = refl
greatest_none (size ∷ sizes) (code ∷ codes) e = greatest_none sizes codes (omega arith)
greatest_none [] (code ∷ codes) e = absurd (omega arith)
greatest_none (size ∷ sizes) [] e = absurd (omega arith)

-- one place more; j is the place after it
pub greatest_more : (sizes codes : List ℕ) (k j size code : ℕ) → j ≡ suc k
    → slice_get sizes k ≡ Some size → slice_get codes k ≡ Some code → code + 1 ≡ size
    → are_greatest (drop j sizes) (drop j codes) ≡ true
    → are_greatest (drop k sizes) (drop k codes) ≡ true
greatest_more sizes codes k j size code is at_size at_code e after =
    let b = rw is at after in
    more sizes codes k at_size at_code b
  where
    more : (sizes codes : List ℕ) (k : ℕ) → slice_get sizes k ≡ Some size
        → slice_get codes k ≡ Some code → are_greatest (drop (suc k) sizes) (drop (suc k) codes)
        ≡ true → are_greatest (drop k sizes) (drop k codes) ≡ true
    more [] codes k at_size at_code b = cc
    more (first ∷ sizes) [] k at_size at_code b = cc
    more (first ∷ sizes) (prefix ∷ codes) zero at_size at_code b =
        let s = same_Some first size at_size in
        let c = same_Some prefix code at_code in
        both_true (eq-eqb (prefix + 1) first (omega arith)) b
    more (first ∷ sizes) (prefix ∷ codes) (suc k) at_size at_code b =
        more sizes codes k at_size at_code b

-- a code that fits is below its size, and a size is at most 33
pub code_below : (sizes codes : List ℕ) (k size code : ℕ) → are_sizes sizes ≡ true
    → fits sizes codes ≡ true → slice_get sizes k ≡ Some size → slice_get codes k ≡ Some code
    → (code < size) × (size ≤ 33)
code_below [] codes k size code s f at_size at_code = cc
code_below (first ∷ sizes) [] k size code s f at_size at_code = cc
code_below (first ∷ sizes) (prefix ∷ codes) zero size code s f at_size at_code =
    let few = (and_parts (nat_le 1 first) (nat_le first 33)
    (and_parts (nat_le 1 first && nat_le first 33) (are_sizes sizes) s).0).1 in
    let less = (and_parts (nat_lt prefix first) (fits sizes codes) f).0 in
    let a : first ≡ size = same_Some first size at_size in
    let b : prefix ≡ code = same_Some prefix code at_code in
    (omega (arith, ltb-true prefix first less), omega (arith, leb-true first 33 few))
code_below (first ∷ sizes) (prefix ∷ codes) (suc k) size code s f at_size at_code =
    code_below sizes codes k size code
    (and_parts (nat_le 1 first && nat_le first 33) (are_sizes sizes) s).1
    (and_parts (nat_lt prefix first) (fits sizes codes) f).1 at_size at_code
