-- The names and numbers among the tokens of a text.
use Rattle.std.proofs.Common.{◌≡◌, ℕ, zero, suc, ◌+◌, ◌-◌, ◌==◌, Bool, true, false, cond, ◌&&◌, nat_le, nat_lt, List, [], ◌∷◌, length, Some, None, Option, Ok, Err, refl, sym, ◌∙◌, subst, arith}
use Rattle.std.specs.Prelude.{Result, ⊤}
use Rattle.std.specs.List.{list_all, take_while, All}
use Rattle.polis_base.specs.Digits.{is_digit, number_of}
use Rattle.polis_base.specs.Names.{begins_name, continues_name, is_name}
use Rattle.polis_base.specs.Spans.{IsToken}
use Rattle.polis_base.specs.Tokens.{is_blank, begins_with, keyword_of, word_kind, scan, scan_word, scan_number, scan_sign, bytes_in, with_token, joined, tokens_from, tokens_of}
use Rattle.polis_base.specs.declared.token.Keyword.{Keyword as Reserved}
use Rattle.polis_base.specs.declared.token.Kind.{Kind}
use Rattle.polis_base.specs.declared.token.Kind.TheVariants as kinds
use Rattle.polis_base.specs.declared.token.LexError.{LexError}
use Rattle.polis_base.specs.declared.token.LexError.TheVariants.{BadByte, NameTooLong, NumberTooLarge}
use Rattle.polis_base.specs.declared.token.Sign.TheVariants.{Equal, Assign, Colon, Comma, LeftBrace, RightBrace, DotDot, Plus}
use Rattle.polis_base.specs.declared.token.Token.{Token}
use Rattle.polis_base.proofs.Spans.{tokens_lie, none_read}
use Rattle.net_reader.proofs.Marks.{Scanned, token_at}
use Rattle.net_reader.specs.Lexemes.{Lexeme, lexemes}
use Rattle.polis_base.proofs.Bools.{and_first, and_second}

-- a number of at most 32 bits, or no number
abbrev pub kind_small : Kind → Bool
kind_small (kinds.Number n) = nat_le n 4294967295
kind_small other = true

abbrev token_small : Token → Bool
token_small token = kind_small token.kind

-- ---- numbers are small
-- what stands at a place brings no large number to the tokens after it
record Small (f : Scanned) : Type 0 where
  pub keeps : (at : ℕ) (r : Result (List Token) LexError) (tokens : List Token)
      → joined f at r ≡ Ok tokens
      → ((ts : List Token) → r ≡ Ok ts → list_all token_small ts ≡ true)
      → list_all token_small tokens ≡ true

pick : (b : Bool) {x y : Scanned} → Small x → Small y → Small (cond b x y)
pick true x y = x
pick false x y = y

-- of a test that failed the second one knows it
pick_known : (b : Bool) {x y : Scanned} → Small x → (b ≡ false → Small y) → Small (cond b x y)
pick_known true x y = x
pick_known false x y = y refl

skips : {f : Scanned} → ((at : ℕ) (r : Result (List Token) LexError) → joined f at r ≡ r) → Small f
skips joins = record { keeps = λ at r tokens h each. each tokens (sym (joins at r) ∙ h) }

with_small : (token : Token) (r : Result (List Token) LexError) (tokens : List Token)
    → token_small token ≡ true → with_token token r ≡ Ok tokens
    → ((ts : List Token) → r ≡ Ok ts → list_all token_small ts ≡ true)
    → list_all token_small tokens ≡ true
with_small token (Ok ts) tokens own h each =
    let same : token ∷ ts ≡ tokens = cc in
    let rest = each ts refl in
    let all : list_all token_small (token ∷ ts) ≡ true = λ i. own i && rest i in
    subst (λ (l : List Token). list_all token_small l ≡ true) same all
with_small token (Err error) tokens own h each = absurd cc

reads : {f : Scanned} (kind : Kind) (len : ℕ) → kind_small kind ≡ true
    → ((at : ℕ) (r : Result (List Token) LexError)
    → joined f at r ≡ with_token (token_at kind len at) r) → Small f
reads kind len own joins = record {
  keeps = λ at r tokens h each. with_small (token_at kind len at) r tokens own
      (sym (joins at r) ∙ h) each;
}

fails : {f : Scanned} (error : LexError)
    → ((at : ℕ) (r : Result (List Token) LexError) → joined f at r ≡ Err error) → Small f
fails error joins = record {
  keeps = λ at r tokens h each. absurd (none_read error tokens (sym (joins at r) ∙ h));
}

word_small : (o : Option Reserved) → kind_small (word_kind o) ≡ true
word_small None = refl
word_small (Some keyword) = refl

below_small : (n : ℕ) → nat_lt 4294967295 n ≡ false → nat_le n 4294967295 ≡ true
below_small n h = grind (arith, h)

word_is : (at : ℕ) (word : List ℕ) → Small (scan_word at word)
word_is at word =
    pick (nat_lt 24 (length word)) (fails (NameTooLong at) (λ _ _. refl))
    (reads (word_kind (keyword_of word)) (length word) (word_small (keyword_of word)) (λ _ _. refl))

number_is : (at : ℕ) (digits : List ℕ) → Small (scan_number at digits)
number_is at digits =
    pick_known (nat_lt 4294967295 (number_of digits)) (fails (NumberTooLarge at) (λ _ _. refl))
    (λ few. reads (kinds.Number (number_of digits)) (length digits)
    (below_small (number_of digits) few) (λ _ _. refl))

sign_is : (at c : ℕ) (rest : List ℕ) → Small (scan_sign at c rest)
sign_is at c rest =
    pick (c == 61) (reads (kinds.Sign Equal) 1 refl (λ _ _. refl))
    (pick (c == 58) (pick (begins_with 61 rest) (reads (kinds.Sign Assign) 2 refl (λ _ _. refl))
    (reads (kinds.Sign Colon) 1 refl (λ _ _. refl)))
    (pick (c == 44) (reads (kinds.Sign Comma) 1 refl (λ _ _. refl))
    (pick (c == 123) (reads (kinds.Sign LeftBrace) 1 refl (λ _ _. refl))
    (pick (c == 125) (reads (kinds.Sign RightBrace) 1 refl (λ _ _. refl))
    (pick (c == 46) (pick (begins_with 46 rest) (reads (kinds.Sign DotDot) 2 refl (λ _ _. refl))
    (fails (BadByte at) (λ _ _. refl)))
    (pick (c == 43) (reads (kinds.Sign Plus) 1 refl (λ _ _. refl))
    (fails (BadByte at) (λ _ _. refl))))))))

scan_is : (at c : ℕ) (rest : List ℕ) → Small (scan at (c ∷ rest))
scan_is at c rest =
    pick (is_blank c) (skips (λ _ _. refl))
    (pick (c == 35) (skips (λ _ _. refl))
    (pick (begins_name c) (word_is at (take_while continues_name (c ∷ rest)))
    (pick (c == 48) (reads (kinds.Number 0) 1 refl (λ _ _. refl))
    (pick (is_digit c) (number_is at (take_while is_digit (c ∷ rest)))
    (sign_is at c rest)))))

all_small : (at passed : ℕ) (bytes : List ℕ) (tokens : List Token)
    → tokens_from at passed bytes ≡ Ok tokens → list_all token_small tokens ≡ true
all_small at passed [] tokens h =
    let same : [] ≡ tokens = cc in
    subst (λ (l : List Token). list_all token_small l ≡ true) same refl
all_small at (suc passed) (c ∷ rest) tokens h = all_small (at + 1) passed rest tokens h
all_small at zero (c ∷ rest) tokens h =
    let n = bytes_in (scan at (c ∷ rest)) - 1 in
    (scan_is at c rest).keeps at (tokens_from (at + 1) n rest) tokens h
    (λ ts e. all_small (at + 1) n rest ts e)

-- ---- lexemes
-- a name is one, and a number is small
pub record IsGood (l : Lexeme) : Type 0 where
  pub name : l.kind ≡ kinds.Name → is_name l.bytes ≡ true
  pub small : kind_small l.kind ≡ true

abbrev pub AreGood : List Lexeme → Type 0
AreGood [] = ⊤
AreGood (l ∷ ls) = IsGood l × AreGood ls

good : (text : List ℕ) (tokens : List Token) → All (IsToken text) tokens
    → list_all token_small tokens ≡ true → AreGood (lexemes text tokens)
good text [] each small = tt
good text (token ∷ tokens) each small = (
  record {
    name = (each zero token (omega arith)).name;
    small = and_first (token_small token) (list_all token_small tokens) small;
  },
  good text tokens (λ k d below. each (suc k) d (omega (arith, below)))
      (and_second (token_small token) (list_all token_small tokens) small),
)

pub tokens_good : (text : List ℕ) (tokens : List Token) → tokens_of text ≡ Ok tokens
    → AreGood (lexemes text tokens)
tokens_good text tokens read =
    good text tokens (tokens_lie text tokens read) (all_small 0 0 text tokens read)
