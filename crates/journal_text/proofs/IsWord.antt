-- Names, numbers and items are words.
use Rattle.std.proofs.Common.{◌≡◌, ◌<◌, ◌+◌, ◌^◌, ℕ, zero, suc, Bool, true, false, not, ◌&&◌, ◌==◌, nat_le, [], ◌∷◌, ◌++◌, length, Option, refl, sym, ◌∙◌, ap, arith, slice_get}
use Rattle.std.specs.Prelude.{unwrap_or}
use Rattle.std.specs.List.{list_all}
use Rattle.std.specs.Fmt.{decimal}
use Rattle.std.proofs.lemmas.Bool.{and_parts, ltb-true, not_from_false, false≢true, eqb-true, and_from}
use Rattle.polis_base.specs.Digits.{is_digit}
use Rattle.polis_base.specs.Names.{is_name, begins_name, continues_name}
use Rattle.domains.specs.Names.{are_distinct}
use Rattle.domains.specs.Domains.{size_of, word_of}
use Rattle.domains.specs.declared.domain.Domain.{Domain}
use Rattle.domains.specs.declared.domain.Domain.TheVariants.{Names, Range}
use Rattle.journal_text.specs.Forms.{Text, Texts, is_word, is_word_byte}
use Rattle.journal_text.specs.Items.{is_equals}
use Rattle.journal_text.specs.Holding.{values_hold}
use Rattle.polis_base.proofs.AllPass.{all_pass, differ_false}
use Rattle.polis_base.specs.Pieces.{lacks}
use Rattle.journal_text.proofs.ItemCodes.{lacks_equals, after_equals}
use Rattle.journal_text.proofs.Decimals.{digits_of}
use Rattle.polis_base.proofs.Scans.{begins_continues}
use Rattle.polis_base.proofs.Lists.{all_append}

-- a byte that passes isn't one that doesn't
pub byte_differs : (test : ℕ → Bool) (d c : ℕ) → test d ≡ false → test c ≡ true → (c == d) ≡ false
byte_differs test d c isnt is =
    differ_false (c == d) (λ e. false≢true (sym isnt ∙ ap test (sym (eqb-true c d e)) ∙ is))

name_byte : (c : ℕ) → continues_name c ≡ true → is_word_byte c ≡ true
name_byte c h =
    rw (
      byte_differs continues_name 32 c refl h,
      byte_differs continues_name 9 c refl h,
      byte_differs continues_name 13 c refl h,
      byte_differs continues_name 10 c refl h,
    ) refl

pub digit_byte : (c : ℕ) → is_digit c ≡ true → is_word_byte c ≡ true
digit_byte c h =
    rw (
      byte_differs is_digit 32 c refl h,
      byte_differs is_digit 9 c refl h,
      byte_differs is_digit 13 c refl h,
      byte_differs is_digit 10 c refl h,
    ) refl

pub word_lacks_space : (w : Text) → list_all is_word_byte w ≡ true → lacks 32 w ≡ true
word_lacks_space w h =
    all_pass is_word_byte (λ c. not (c == 32))
    (λ c is. not_from_false _ (byte_differs is_word_byte 32 c refl is)) w h

pub word_lacks_lf : (w : Text) → list_all is_word_byte w ≡ true → lacks 10 w ≡ true
word_lacks_lf w h =
    all_pass is_word_byte (λ c. not (c == 10))
    (λ c is. not_from_false _ (byte_differs is_word_byte 10 c refl is)) w h

-- the bytes of a name
pub name_continues : (name : Text) → is_name name ≡ true → list_all continues_name name ≡ true
name_continues [] h = refl
name_continues (c ∷ cs) h =
    let parts = and_parts (nat_le (length (c ∷ cs)) 24
    && (begins_name c && list_all continues_name cs)) _ h in
    let word = and_parts (nat_le (length (c ∷ cs)) 24) _ parts.0 in
    let bytes = and_parts (begins_name c) _ word.1 in
    and_from _ _ (begins_continues c bytes.0) bytes.1

name_begins : (c : ℕ) (cs : Text) → is_name (c ∷ cs) ≡ true → begins_name c ≡ true
name_begins c cs h =
    let parts = and_parts (nat_le (length (c ∷ cs)) 24
    && (begins_name c && list_all continues_name cs)) _ h in
    let word = and_parts (nat_le (length (c ∷ cs)) 24) _ parts.0 in
    (and_parts (begins_name c) _ word.1).0

pub name_bytes : (name : Text) → is_name name ≡ true → list_all is_word_byte name ≡ true
name_bytes name h = all_pass continues_name is_word_byte name_byte name (name_continues name h)

pub name_lacks_equals : (name : Text) → is_name name ≡ true → lacks_equals name ≡ true
name_lacks_equals name h =
    all_pass continues_name (λ c. not (is_equals c))
    (λ c is. not_from_false _ (byte_differs continues_name 61 c refl is)) name
    (name_continues name h)

word_begun : (c : ℕ) (cs : Text) → begins_name c ≡ true → list_all is_word_byte (c ∷ cs) ≡ true
    → is_word (c ∷ cs) ≡ true
word_begun c cs first all =
    rw (
      all,
      byte_differs begins_name 45 c refl first,
      byte_differs begins_name 58 c refl first,
      byte_differs begins_name 59 c refl first,
    ) refl

-- a name with a value after `=`, or without, is a word
pub item_word : (name : Text) (value : Option Text) → is_name name ≡ true
    → list_all is_word_byte (after_equals value) ≡ true
    → is_word (name ++ after_equals value) ≡ true
item_word [] value h all = cc
item_word (c ∷ cs) value h all =
    word_begun c (cs ++ after_equals value) (name_begins c cs h)
    (all_append is_word_byte (c ∷ cs) (after_equals value) (name_bytes (c ∷ cs) h) all)

-- the bytes of the words of a domain
pub value_bytes : (d : Domain) (v : ℕ) → values_hold d ≡ true → v < size_of d
    → list_all is_word_byte (word_of d v) ≡ true
value_bytes (Names names) v h below =
    let parts = and_parts (nat_le 1 (length names) && nat_le (length names) 32
    && are_distinct names) _ h in
    at names v parts.1 below
  where
    at : (names : Texts) (v : ℕ) → list_all is_name names ≡ true → v < length names
        → list_all is_word_byte (unwrap_or (slice_get names v) []) ≡ true
    at [] v all below = absurd (omega arith)
    at (name ∷ names) zero all below = name_bytes name (and_parts (is_name name) _ all).0
    at (name ∷ names) (suc v) all below =
        at names v (and_parts (is_name name) _ all).1 (omega arith)
value_bytes (Range span) v h below =
    let last : span.last < 2 ^ 32 = ltb-true _ _ h in
    all_pass is_digit is_word_byte digit_byte (decimal (span.first + v))
    (digits_of (span.first + v) (omega (arith, span.ordered)))
