-- Decimal texts and their numbers.
use Rattle.std.proofs.Common.{◌≡◌, ℕ, ◌^◌, ◌<◌, Bool, true, false, ◌&&◌, List, refl, ◌∙◌, ap, nat_lt, cond, Some, None}
use Rattle.std.specs.List.{list_all}
use Rattle.std.specs.Fmt.{decimal}
use Rattle.std.proofs.lemmas.Bool.{ltb-true, lt-ltb}
use Rattle.std.proofs.lemmas.Fmt.{digits_decimal}
use Rattle.journal_text.specs.Forms.{decimal_of}
use Rattle.journal_text.proofs.FormWords.{some_same}
use Rattle.polis_base.specs.Digits.{is_digit, is_plain, number_of}
use Rattle.polis_base.proofs.Digits.{own, text_of_number, number_of_decimal, plain_decimal}

pub digits_of : (n : ℕ) → n < 2 ^ 64 → list_all is_digit (decimal n) ≡ true
digits_of n fits = digits_decimal own n fits

-- a number is read from its text, and each text that is read is that of its number
pub decimal_read : (n : ℕ) → n < 2 ^ 64 → decimal_of (decimal n) ≡ Some n
decimal_read n fits = rw (plain_decimal n fits, number_of_decimal n fits, lt-ltb n _ fits) refl

pub decimal_is : (text : List ℕ) (n : ℕ) → decimal_of text ≡ Some n
    → (text ≡ decimal n) × (n < 2 ^ 64)
decimal_is text n h = go (is_plain text) (nat_lt (number_of text) (2 ^ 64)) refl refl h
  where
    go : (a b : Bool) → is_plain text ≡ a → nat_lt (number_of text) (2 ^ 64) ≡ b
        → cond (a && b) (Some (number_of text)) None ≡ Some n → (text ≡ decimal n) × (n < 2 ^ 64)
    go true true p q e =
        let is : number_of text ≡ n = some_same e in
        let below = ltb-true _ _ q in
        (text_of_number text p below ∙ ap decimal is, rw (← is) below)
    go true false p q e = cc
    go false b p q e = cc
