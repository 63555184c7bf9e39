-- What stands at a place takes at least one byte, and no more than there are.
use Rattle.std.proofs.Common.{◌≡◌, ℕ, suc, ◌+◌, ◌<◌, ◌≤◌, Bool, true, false, cond, not, ◌==◌, nat_lt, List, [], ◌∷◌, length, drop, get_or, Some, Ok, IfOk, refl, sym, ◌∙◌, ap, arith, inl, inr}
use Rattle.std.specs.List.{take_while, prefix_len}
use Rattle.std.proofs.Math.Seq.{drop-cons}
use Rattle.std.proofs.lemmas.Bool.{cond_both, eqb-true, false≢true, or_cases}
use Rattle.std.proofs.lemmas.Bool.Decides.{nat_tests}
use Rattle.std.proofs.lemmas.List.Sums.{prefix_len-le-length}
use Rattle.std.proofs.lemmas.List.Folds.{length-prefix_len}
use Rattle.polis_base.specs.declared.lex.Scan.{Scan}
use Rattle.polis_base.specs.declared.lex.Scan.TheVariants.{Skipped, Read, Faulty}
use Rattle.polis_base.specs.Names.{begins_name, continues_name}
use Rattle.polis_base.specs.inner.Classes.{is_sign, is_alone}
use Rattle.polis_base.specs.Digits.{is_digit, number_of}
use Rattle.polis_base.specs.Tokens.{scan, scan_word, scan_number, scan_sign, begins_with, bytes_in, is_blank, word_kind}
use Rattle.polis_base.specs.Tokens.{width}
use Rattle.polis_base.specs.inner.Keywords.{keyword_of}
use Rattle.polis_base.specs.declared.token.Kind.TheVariants.{Number}
use Rattle.polis_base.specs.declared.token.LexError.{LexError}
use Rattle.polis_base.specs.declared.token.LexError.TheVariants.{BadByte, NameTooLong, NumberTooLarge, NoMemory}

-- what stands there has 1 to n bytes
record Sized (n : ℕ) (f : Scan) : Type 0 where
  some : 0 < bytes_in f
  within : bytes_in f ≤ n

either : (n : ℕ) (b : Bool) (f g : Scan) → (b ≡ true → Sized n f) → (b ≡ false → Sized n g)
    → Sized n (cond b f g)
either n b f g first second = cond_both b f g (Sized n) first second

-- the bytes from the scan on that pass, where the first does
run_sized : (p : ℕ → Bool) (c : ℕ) (rest : List ℕ) → p c ≡ true
    → (0 < prefix_len p (c ∷ rest)) × (prefix_len p (c ∷ rest) ≤ suc (length rest))
run_sized p c rest passes =
    let e : prefix_len p (c ∷ rest) ≡ 1 + prefix_len p rest =
    ap (λ b. cond b (1 + prefix_len p rest) 0) passes in
    let le = prefix_len-le-length p rest in
    (omega arith, omega arith)

pub begins_continues : (c : ℕ) → begins_name c ≡ true → continues_name c ≡ true
begins_continues c begins = rw begins refl

word_sized : (at n : ℕ) (word : List ℕ) → 0 < length word → length word ≤ n
    → Sized n (scan_word at word)
word_sized at n word some within =
    either n (nat_lt 24 (length word)) (Faulty (NameTooLong at))
    (Read (word_kind (keyword_of word)) (length word))
    (λ long. record { some = omega arith; within = omega arith })
    (λ short. record { some = some; within = within })

number_sized : (at n : ℕ) (digits : List ℕ) → 0 < length digits → length digits ≤ n
    → Sized n (scan_number at digits)
number_sized at n digits some within =
    either n (nat_lt 4294967295 (number_of digits)) (Faulty (NumberTooLarge at))
    (Read (Number (number_of digits)) (length digits))
    (λ large. record { some = omega arith; within = omega arith })
    (λ small. record { some = some; within = within })

two_bytes : (b : ℕ) (rest : List ℕ) → begins_with b rest ≡ true → 2 ≤ suc (length rest)
two_bytes b [] begins = cc
two_bytes b (c ∷ rest) begins = omega arith

one_sized : (n : ℕ) (f : Scan) → 1 ≤ n → bytes_in f ≡ 1 → Sized n f
one_sized n f room one = record { some = omega arith; within = omega arith }

both : (n : ℕ) (b : Bool) (f g : Scan) → Sized n f → Sized n g → Sized n (cond b f g)
both n true f g first second = first
both n false f g first second = second

sign_sized : (at c : ℕ) (rest : List ℕ) → Sized (suc (length rest)) (scan_sign at c rest)
sign_sized at c rest =
    let n = suc (length rest) in
    let one = λ (f : Scan) (e : bytes_in f ≡ 1). one_sized n f (omega arith) e in
    let two = λ (b : ℕ) (is : begins_with b rest ≡ true). two_bytes b rest is in
    both n (c == 61) _ _ (one _ refl)
    (both n (c == 58) _ _
    (either n (begins_with 61 rest) _ _
    (λ is. record { some = omega arith; within = two 61 is }) (λ _. one _ refl))
    (both n (c == 44) _ _ (one _ refl)
    (both n (c == 123) _ _ (one _ refl)
    (both n (c == 125) _ _ (one _ refl)
    (both n (c == 46) _ _
    (either n (begins_with 46 rest) _ _
    (λ is. record { some = omega arith; within = two 46 is }) (λ _. one _ refl))
    (both n (c == 43) _ _ (one _ refl) (one _ refl)))))))

not_line : (c : ℕ) → (c == 35) ≡ true → not (c == 10) ≡ true
not_line c hash = grind (arith, nat_tests)

comment_sized : (c : ℕ) (rest : List ℕ) → (c == 35) ≡ true
    → Sized (suc (length rest)) (Skipped (prefix_len (λ b. not (b == 10)) (c ∷ rest)))
comment_sized c rest hash =
    let r = run_sized (λ b. not (b == 10)) c rest (not_line c hash) in
    record { some = r.0; within = r.1 }

word_run_sized : (at c : ℕ) (rest : List ℕ) → begins_name c ≡ true
    → Sized (suc (length rest)) (scan_word at (take_while continues_name (c ∷ rest)))
word_run_sized at c rest begins =
    let r = run_sized continues_name c rest (begins_continues c begins) in
    let e : length (take_while continues_name (c ∷ rest)) ≡ prefix_len continues_name (c ∷ rest) =
    length-prefix_len continues_name (c ∷ rest) in
    word_sized at (suc (length rest)) (take_while continues_name (c ∷ rest)) (rw e r.0) (rw e r.1)

number_run_sized : (at c : ℕ) (rest : List ℕ) → is_digit c ≡ true
    → Sized (suc (length rest)) (scan_number at (take_while is_digit (c ∷ rest)))
number_run_sized at c rest digit =
    let r = run_sized is_digit c rest digit in
    let e : length (take_while is_digit (c ∷ rest)) ≡ prefix_len is_digit (c ∷ rest) =
    length-prefix_len is_digit (c ∷ rest) in
    number_sized at (suc (length rest)) (take_while is_digit (c ∷ rest)) (rw e r.0) (rw e r.1)

scan_sized : (at c : ℕ) (rest : List ℕ) → Sized (suc (length rest)) (scan at (c ∷ rest))
scan_sized at c rest =
    let n = suc (length rest) in
    let one = λ (f : Scan) (e : bytes_in f ≡ 1). one_sized n f (omega arith) e in
    both n (is_blank c) _ _ (one _ refl)
    (either n (c == 35) _ _ (comment_sized c rest) (λ _.
    either n (begins_name c) _ _ (word_run_sized at c rest) (λ _.
    both n (c == 48) _ _ (one _ refl)
    (either n (is_digit c) _ _ (number_run_sized at c rest) (λ _. sign_sized at c rest)))))

pub scan_some : (at : ℕ) (bytes : List ℕ) → 0 < length bytes → 0 < bytes_in (scan at bytes)
scan_some at [] some = absurd (omega arith)
scan_some at (c ∷ rest) some = (scan_sized at c rest).some

pub scan_within : (at : ℕ) (bytes : List ℕ) → 0 < length bytes
    → bytes_in (scan at bytes) ≤ length bytes
scan_within at [] some = absurd (omega arith)
scan_within at (c ∷ rest) some = (scan_sized at c rest).within

-- no fault is running out of memory
abbrev is_lexical : LexError → Bool
is_lexical (BadByte at) = true
is_lexical (NameTooLong at) = true
is_lexical (NumberTooLarge at) = true
is_lexical NoMemory = false

abbrev has_lexical : Scan → Bool
has_lexical (Skipped n) = true
has_lexical (Read kind n) = true
has_lexical (Faulty error) = is_lexical error

of_both : (b : Bool) (f g : Scan) → has_lexical f ≡ true → has_lexical g ≡ true
    → has_lexical (cond b f g) ≡ true
of_both true f g first second = first
of_both false f g first second = second

sign_lexical : (at c : ℕ) (rest : List ℕ) → has_lexical (scan_sign at c rest) ≡ true
sign_lexical at c rest =
    of_both (c == 61) _ _ refl
    (of_both (c == 58) _ _ (of_both (begins_with 61 rest) _ _ refl refl)
    (of_both (c == 44) _ _ refl
    (of_both (c == 123) _ _ refl
    (of_both (c == 125) _ _ refl
    (of_both (c == 46) _ _ (of_both (begins_with 46 rest) _ _ refl refl)
    (of_both (c == 43) _ _ refl refl))))))

word_lexical : (at : ℕ) (word : List ℕ) → has_lexical (scan_word at word) ≡ true
word_lexical at word = of_both (nat_lt 24 (length word)) _ _ refl refl

number_lexical : (at : ℕ) (digits : List ℕ) → has_lexical (scan_number at digits) ≡ true
number_lexical at digits = of_both (nat_lt 4294967295 (number_of digits)) _ _ refl refl

scan_lexical : (at : ℕ) (bytes : List ℕ) → has_lexical (scan at bytes) ≡ true
scan_lexical at [] = refl
scan_lexical at (c ∷ rest) =
    of_both (is_blank c) _ _ refl
    (of_both (c == 35) _ _ refl
    (of_both (begins_name c) _ _ (word_lexical at (take_while continues_name (c ∷ rest)))
    (of_both (c == 48) _ _ refl
    (of_both (is_digit c) _ _ (number_lexical at (take_while is_digit (c ∷ rest)))
    (sign_lexical at c rest)))))

pub never_memory : (at : ℕ) (bytes : List ℕ) (error : LexError) → scan at bytes ≡ Faulty error
    → Some error ≡ Some NoMemory → ⊥
never_memory at bytes error is memory =
    let same : error ≡ NoMemory = cc in
    let fault : scan at bytes ≡ Faulty NoMemory = is ∙ ap Faulty same in
    false≢true (ap has_lexical (sym fault) ∙ scan_lexical at bytes)

-- a blank is passed over
pub blank_here : (text : List ℕ) (at d : ℕ) → at < length text → is_blank (get_or text at d) ≡ true
    → scan at (drop at text) ≡ Skipped 1
blank_here text at d below blank = rw (drop-cons text at d below, blank) refl

sign_width : (at c n : ℕ) (rest : List ℕ) → (c == n) ≡ true → width (scan at (n ∷ rest)) ≡ Ok 1
    → width (scan at (c ∷ rest)) ≡ Ok 1
sign_width at c n rest is wide = rw (eqb-true c n is) wide

alone_width : (at c : ℕ) (rest : List ℕ) → is_alone c ≡ true → width (scan at (c ∷ rest)) ≡ Ok 1
alone_width at c rest alone =
    elim (or_cases (is_blank c) (is_sign c) alone) [
      | inl blank ↦ rw blank refl
      | inr sign ↦ elim (or_cases (c == 61) _ sign) [
        | inl is ↦ sign_width at c 61 rest is refl
        | inr sign ↦ elim (or_cases (c == 44) _ sign) [
          | inl is ↦ sign_width at c 44 rest is refl
          | inr sign ↦ elim (or_cases (c == 123) _ sign) [
            | inl is ↦ sign_width at c 123 rest is refl
            | inr sign ↦ elim (or_cases (c == 125) (c == 43) sign) [
              | inl is ↦ sign_width at c 125 rest is refl
              | inr is ↦ sign_width at c 43 rest is refl
            ]
          ]
        ]
      ]
    ]

-- a blank and such a sign take one byte
pub alone_here : (text : List ℕ) (at d : ℕ) → at < length text → is_alone (get_or text at d) ≡ true
    → width (scan at (drop at text)) ≡ Ok 1
alone_here text at d below alone =
    rw (drop-cons text at d below) (alone_width at (get_or text at d) (drop (suc at) text) alone)

pub width_some : (f : Scan) → 0 < bytes_in f → IfOk (width f) (λ n. 0 < n)
width_some (Skipped n) some = some
width_some (Read kind n) some = some
width_some (Faulty error) some = tt

pub width_within : (f : Scan) (at n : ℕ) → at + bytes_in f ≤ n → IfOk (width f) (λ m. at + m ≤ n)
width_within (Skipped m) at n within = within
width_within (Read kind m) at n within = within
width_within (Faulty error) at n within = tt
