-- A name that is put in place.
use Rattle.std.proofs.Common.{◌≡◌, ℕ, zero, suc, ◌-◌, ◌≤◌, true, not, ◌==◌, nat_le, List, [], ◌∷◌, length, ◌++◌, refl, ◌∙◌, ap, arith, replicate}
use Rattle.std.specs.List.{list_all}
use Rattle.std.proofs.lemmas.List.{length-append, length-replicate}
use Rattle.std.proofs.lemmas.List.Sums.{take_while-cons}
use Rattle.std.proofs.lemmas.Bool.Decides.{nat_tests}
use Rattle.polis_base.specs.Names.{is_name, is_word, is_keyword, begins_name, continues_name}
use Rattle.polis_base.specs.NameFields.{HoldsName, before_zero}
use Rattle.polis_base.proofs.Bools.{and_first, and_second}
use Rattle.polis_base.proofs.Scans.{begins_continues}

short : (n : ℕ) → nat_le n 24 ≡ true → n ≤ 24
short n h = grind (arith, nat_tests)

-- no byte of a name is zero
not_zero : (c : ℕ) → continues_name c ≡ true → not (c == 0) ≡ true
not_zero zero continues = cc
not_zero (suc c) continues = grind (arith, nat_tests)

zeros_end : (n : ℕ) → before_zero (replicate n 0) ≡ []
zeros_end zero = refl
zeros_end (suc n) = refl

before_zeros : (cs : List ℕ) (n : ℕ) → list_all continues_name cs ≡ true
    → before_zero (cs ++ replicate n 0) ≡ cs
before_zeros [] n continue = zeros_end n
before_zeros (c ∷ cs) n continue =
    let here = not_zero c (and_first (continues_name c) (list_all continues_name cs) continue) in
    let later = before_zeros cs n (and_second (continues_name c) _ continue) in
    take_while-cons (λ (b : ℕ). not (b == 0)) c (cs ++ replicate n 0)
    ∙ rw here (ap (λ (xs : List ℕ). c ∷ xs) later)

word_continues : (xs : List ℕ) → is_word xs ≡ true → list_all continues_name xs ≡ true
word_continues [] word = refl
word_continues (c ∷ cs) word =
    let here = begins_continues c (and_first (begins_name c) (list_all continues_name cs) word) in
    rw (here, and_second (begins_name c) _ word) refl

pub fits_in_place : (xs : List ℕ) → is_name xs ≡ true → length xs ≤ 24
fits_in_place xs name =
    short (length xs)
    (and_first (nat_le (length xs) 24) (is_word xs) (and_first _ (not (is_keyword xs)) name))

name_word : (xs : List ℕ) → is_name xs ≡ true → is_word xs ≡ true
name_word xs name =
    and_second (nat_le (length xs) 24) (is_word xs) (and_first _ (not (is_keyword xs)) name)

-- the bytes before the zeros are the name's
pub name_before_zeros : (xs : List ℕ) (n : ℕ) → is_name xs ≡ true
    → before_zero (xs ++ replicate n 0) ≡ xs
name_before_zeros xs n name = before_zeros xs n (word_continues xs (name_word xs name))

pub holds_new : (xs : List ℕ) → is_name xs ≡ true
    → HoldsName (record { bytes = xs ++ replicate (24 - length xs) 0 })
holds_new xs name =
    let same = name_before_zeros xs (24 - length xs) name in
    let fits = fits_in_place xs name in
    record {
      whole = length-append xs (replicate (24 - length xs) 0)
          ∙ omega (arith, fits, length-replicate {A = ℕ} (24 - length xs) 0);
      name = rw same name;
      padded = rw same refl;
    }
