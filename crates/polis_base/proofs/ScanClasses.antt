-- The class of the first byte tells which test of a scan is the first that passes.
use Rattle.std.proofs.Common.{◌≡◌, ◌≢◌, ℕ, Bool, true, false, cond, ◌==◌, not, List, ◌∷◌, refl, ap, ◌∙◌, arith, inl, inr}
use Rattle.std.specs.List.{take_while, prefix_len}
use Rattle.std.proofs.lemmas.Bool.{or_cases, eqb-true}
use Rattle.polis_base.specs.declared.lex.Scan.TheVariants.{Skipped, Read}
use Rattle.polis_base.specs.declared.token.Kind.TheVariants.{Number}
use Rattle.polis_base.specs.Names.{begins_name, continues_name}
use Rattle.polis_base.specs.Digits.{is_digit}
use Rattle.polis_base.specs.Tokens.{scan, scan_word, scan_number, scan_sign, is_blank}
use Rattle.polis_base.specs.inner.Classes.{is_sign, class_of}

-- the class that these tests give
abbrev class_by : Bool → Bool → Bool → Bool → Bool → Bool → ℕ
class_by blank sign hash letter zero digit =
    cond blank 48
    (cond sign 49 (cond hash 50 (cond letter 54 (cond zero 52 (cond digit 53 51)))))

-- what the first of these tests that passes gives
abbrev chosen : {A : Type 0} → Bool → Bool → Bool → Bool → Bool → A → A → A → A → A → A → A
chosen blank hash letter zero digit v w x y z other =
    cond blank v (cond hash w (cond letter x (cond zero y (cond digit z other))))

-- each class that is told from all others
pub record Chosen {A : Type 0} (class : ℕ) (choice v w x y z : A) : Type 0 where
  pub blank : class ≡ 48 → choice ≡ v
  pub hash : class ≡ 50 → choice ≡ w
  pub letter : class ≡ 54 → choice ≡ x
  pub zero : class ≡ 52 → choice ≡ y
  pub digit : class ≡ 53 → choice ≡ z

told : {A : Type 0} (b s h l n d : Bool) (v w x y z o : A)
    → Chosen (class_by b s h l n d) (chosen b h l n d v w x y z o) v w x y z
told true s h l n d v w x y z o =
    record {
      blank = λ is. refl;
      hash = λ is. absurd (omega (arith, is));
      letter = λ is. absurd (omega (arith, is));
      zero = λ is. absurd (omega (arith, is));
      digit = λ is. absurd (omega (arith, is));
    }
told false true h l n d v w x y z o =
    record {
      blank = λ is. absurd (omega (arith, is));
      hash = λ is. absurd (omega (arith, is));
      letter = λ is. absurd (omega (arith, is));
      zero = λ is. absurd (omega (arith, is));
      digit = λ is. absurd (omega (arith, is));
    }
told false false true l n d v w x y z o =
    record {
      blank = λ is. absurd (omega (arith, is));
      hash = λ is. refl;
      letter = λ is. absurd (omega (arith, is));
      zero = λ is. absurd (omega (arith, is));
      digit = λ is. absurd (omega (arith, is));
    }
told false false false true n d v w x y z o =
    record {
      blank = λ is. absurd (omega (arith, is));
      hash = λ is. absurd (omega (arith, is));
      letter = λ is. refl;
      zero = λ is. absurd (omega (arith, is));
      digit = λ is. absurd (omega (arith, is));
    }
told false false false false true d v w x y z o =
    record {
      blank = λ is. absurd (omega (arith, is));
      hash = λ is. absurd (omega (arith, is));
      letter = λ is. absurd (omega (arith, is));
      zero = λ is. refl;
      digit = λ is. absurd (omega (arith, is));
    }
told false false false false false true v w x y z o =
    record {
      blank = λ is. absurd (omega (arith, is));
      hash = λ is. absurd (omega (arith, is));
      letter = λ is. absurd (omega (arith, is));
      zero = λ is. absurd (omega (arith, is));
      digit = λ is. refl;
    }
told false false false false false false v w x y z o =
    record {
      blank = λ is. absurd (omega (arith, is));
      hash = λ is. absurd (omega (arith, is));
      letter = λ is. absurd (omega (arith, is));
      zero = λ is. absurd (omega (arith, is));
      digit = λ is. absurd (omega (arith, is));
    }

-- what a byte of another class is the first of
other_chosen : {A : Type 0} (b s h l n d : Bool) (v w x y z o : A)
    → (s ≡ true → chosen b h l n d v w x y z o ≡ o)
    → class_by b s h l n d ≢ 48 → class_by b s h l n d ≢ 50 → class_by b s h l n d ≢ 54
    → class_by b s h l n d ≢ 52 → class_by b s h l n d ≢ 53 → chosen b h l n d v w x y z o ≡ o
other_chosen true s h l n d v w x y z o sign p q r t u = absurd (p refl)
other_chosen false true h l n d v w x y z o sign p q r t u = sign refl
other_chosen false false true l n d v w x y z o sign p q r t u = absurd (q refl)
other_chosen false false false true n d v w x y z o sign p q r t u = absurd (r refl)
other_chosen false false false false true d v w x y z o sign p q r t u = absurd (t refl)
other_chosen false false false false false true v w x y z o sign p q r t u = absurd (u refl)
other_chosen false false false false false false v w x y z o sign p q r t u = refl

told_scan : (at c : ℕ) (rest : List ℕ) → Chosen (class_of c) (scan at (c ∷ rest)) (Skipped 1)
    (Skipped (prefix_len (λ b. not (b == 10)) (c ∷ rest)))
    (scan_word at (take_while continues_name (c ∷ rest))) (Read (Number 0) 1)
    (scan_number at (take_while is_digit (c ∷ rest)))
told_scan at c rest =
    told (is_blank c) (is_sign c) (c == 35) (begins_name c) (c == 48) (is_digit c) _ _ _ _ _ _

pub class_scan : (at c : ℕ) (rest bytes : List ℕ) → bytes ≡ c ∷ rest
    → Chosen (class_of c) (scan at bytes) (Skipped 1)
    (Skipped (prefix_len (λ b. not (b == 10)) bytes))
    (scan_word at (take_while continues_name bytes)) (Read (Number 0) 1)
    (scan_number at (take_while is_digit bytes))
class_scan at c rest bytes is = rw is (told_scan at c rest)

-- a byte that is this sign
one_sign : (at c k : ℕ) (rest : List ℕ) → scan at (k ∷ rest) ≡ scan_sign at k rest
    → (c == k) ≡ true → scan at (c ∷ rest) ≡ scan_sign at c rest
one_sign at c k rest h is = rw (eqb-true c k is) h

sign_scan : (at c : ℕ) (rest : List ℕ) → is_sign c ≡ true
    → scan at (c ∷ rest) ≡ scan_sign at c rest
sign_scan at c rest is =
    elim (or_cases (c == 61) _ is) [
      | inl equal ↦ one_sign at c 61 rest refl equal
      | inr more ↦ elim (or_cases (c == 44) _ more) [
        | inl comma ↦ one_sign at c 44 rest refl comma
        | inr more ↦ elim (or_cases (c == 123) _ more) [
          | inl left ↦ one_sign at c 123 rest refl left
          | inr more ↦ elim (or_cases (c == 125) _ more) [
            | inl right ↦ one_sign at c 125 rest refl right
            | inr plus ↦ one_sign at c 43 rest refl plus
          ]
        ]
      ]
    ]

pub other_scan : (at c : ℕ) (rest bytes : List ℕ) → bytes ≡ c ∷ rest → class_of c ≢ 48
    → class_of c ≢ 50 → class_of c ≢ 54 → class_of c ≢ 52 → class_of c ≢ 53
    → scan at bytes ≡ scan_sign at c rest
other_scan at c rest bytes is p q r t u =
    ap (scan at) is
    ∙ other_chosen (is_blank c) (is_sign c) (c == 35) (begins_name c) (c == 48) (is_digit c)
    _ _ _ _ _ _ (sign_scan at c rest) p q r t u
