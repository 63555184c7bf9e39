-- One token more: what is read from a place on, by what stands there.
use Rattle.std.proofs.Common.{◌≡◌, ℕ, zero, suc, ◌+◌, ◌-◌, ◌<◌, ◌≤◌, List, [], ◌∷◌, ◌++◌, length, drop, Result, Ok, Err, refl, sym, ◌∙◌, ap, arith, add-zero}
use Rattle.std.specs.Result.{is_ok, result_err}
use Rattle.std.proofs.lemmas.List.{append_assoc, append-nil, drop-drop, drop_all, length-drop}
use Rattle.polis_base.specs.declared.token.Kind.{Kind}
use Rattle.polis_base.specs.declared.token.Token.{Token}
use Rattle.polis_base.specs.declared.token.LexError.{LexError}
use Rattle.polis_base.specs.declared.lex.Scan.{Scan}
use Rattle.polis_base.specs.declared.lex.Scan.TheVariants.{Skipped, Read, Faulty}
use Rattle.polis_base.specs.Tokens.{scan, bytes_in, with_token, joined, tokens_from, tokens_after}
use Rattle.polis_base.specs.Tokens.{width}

-- the tokens, where they read, with others before them
abbrev pub after : List Token → Result (List Token) LexError → Result (List Token) LexError
after made (Ok tokens) = Ok (made ++ tokens)
after made (Err error) = Err error

-- the first bytes are passed over
pub passed : (at n : ℕ) (bytes : List ℕ)
    → tokens_from at n bytes ≡ tokens_from (at + n) 0 (drop n bytes)
passed at zero bytes = rw add-zero refl
passed at (suc n) [] = refl
passed at (suc n) (c ∷ rest) =
    let e : at + 1 + n ≡ at + suc n = omega arith in
    passed (at + 1) n rest ∙ ap (λ i. tokens_from i 0 (drop n rest)) e

pub drop_first : (n c : ℕ) (rest : List ℕ) → 0 < n → drop (n - 1) rest ≡ drop n (c ∷ rest)
drop_first zero c rest some = absurd (omega arith)
drop_first (suc n) c rest some =
    let e : suc n - 1 ≡ n = omega arith in
    ap (λ m. drop m rest) e

-- what is read from a place on is what stands there, and then what is read after it
step : (at : ℕ) (bytes : List ℕ) (f : Scan) → scan at bytes ≡ f → 0 < length bytes → 0 < bytes_in f
    → tokens_from at 0 bytes ≡ joined f at
    (tokens_from (at + bytes_in f) 0 (drop (bytes_in f) bytes))
step at [] f is some more = absurd (omega arith)
step at (c ∷ rest) f is some more =
    let n = bytes_in f in
    let e : at + 1 + (n - 1) ≡ at + n = omega arith in
    ap (λ g. joined g at (tokens_from (at + 1) (bytes_in g - 1) rest)) is
    ∙ ap (joined f at) (passed (at + 1) (n - 1) rest
    ∙ ap (λ i. tokens_from i 0 (drop (n - 1) rest)) e
    ∙ ap (tokens_from (at + n) 0) (drop_first n c rest more))

from_place : (at : ℕ) (text : List ℕ) (f : Scan) → scan at (drop at text) ≡ f → at < length text
    → 0 < bytes_in f
    → tokens_from at 0 (drop at text) ≡ joined f at
    (tokens_from (at + bytes_in f) 0 (drop (at + bytes_in f) text))
from_place at text f is within more =
    let some : 0 < length (drop at text) = rw (length-drop at text) (omega arith) in
    step at (drop at text) f is some more
    ∙ ap (λ bytes. joined f at (tokens_from (at + bytes_in f) 0 bytes))
    (drop-drop (bytes_in f) at text)

after_with : (made : List Token) (token : Token) (read : Result (List Token) LexError)
    → after made (with_token token read) ≡ after (made ++ token ∷ []) read
after_with made token (Ok tokens) = ap Ok (sym (append_assoc made (token ∷ []) tokens))
after_with made token (Err error) = refl

-- bytes that are no token
pub skipped_more : (made : List Token) (at n : ℕ) (text : List ℕ)
    → scan at (drop at text) ≡ Skipped n → at < length text → 0 < n
    → after made (tokens_from at 0 (drop at text))
    ≡ after made (tokens_from (at + n) 0 (drop (at + n) text))
skipped_more made at n text is within more =
    ap (after made) (from_place at text (Skipped n) is within more)

-- a token
pub read_more : (made : List Token) (at n : ℕ) (kind : Kind) (text : List ℕ)
    → scan at (drop at text) ≡ Read kind n → at < length text → 0 < n
    → after made (tokens_from at 0 (drop at text))
    ≡ after (made ++ record { kind = kind; at = at; len = n } ∷ [])
    (tokens_from (at + n) 0 (drop (at + n) text))
read_more made at n kind text is within more =
    ap (after made) (from_place at text (Read kind n) is within more)
    ∙ after_with made (record { kind = kind; at = at; len = n })
    (tokens_from (at + n) 0 (drop (at + n) text))

-- the end of the text
pub all_read : (made : List Token) (at : ℕ) (text : List ℕ) → length text ≤ at
    → after made (tokens_from at 0 (drop at text)) ≡ Ok made
all_read made at text end =
    ap (λ bytes. after made (tokens_from at 0 bytes)) (drop_all at text end)
    ∙ ap Ok (append-nil made)

-- what reads from a place on, by what stands there
pub skipped_on : (at n : ℕ) (text : List ℕ) → scan at (drop at text) ≡ Skipped n → at < length text
    → 0 < n → tokens_after text at ≡ tokens_after text (at + n)
skipped_on at n text is within more = from_place at text (Skipped n) is within more

pub read_on : (at n : ℕ) (kind : Kind) (text : List ℕ) → scan at (drop at text) ≡ Read kind n
    → at < length text → 0 < n
    → tokens_after text at ≡ with_token (record { kind = kind; at = at; len = n })
    (tokens_after text (at + n))
read_on at n kind text is within more = from_place at text (Read kind n) is within more

pub faulty_on : (at : ℕ) (error : LexError) (text : List ℕ) → scan at (drop at text) ≡ Faulty error
    → at < length text → tokens_after text at ≡ Err error
faulty_on at error text is within = from_place at text (Faulty error) is within (omega arith)

pub none_on : (at : ℕ) (text : List ℕ) → length text ≤ at → tokens_after text at ≡ Ok []
none_on at text end = ap (λ bytes. tokens_from at 0 bytes) (drop_all at text end)

-- one token before makes no fault
pub same_fault : (token : Token) (read : Result (List Token) LexError)
    → result_err (with_token token read) ≡ result_err read
same_fault token (Ok tokens) = refl
same_fault token (Err error) = refl

pub same_ok : (token : Token) (read : Result (List Token) LexError)
    → is_ok (with_token token read) ≡ is_ok read
same_ok token (Ok tokens) = refl
same_ok token (Err error) = refl

width_passed : (at n : ℕ) (text : List ℕ) (f : Scan) → scan at (drop at text) ≡ f → width f ≡ Ok n
    → at < length text → 0 < n
    → result_err (tokens_after text at) ≡ result_err (tokens_after text (at + n))
width_passed at n text (Skipped m) is wide within more =
    let e : m ≡ n = cc in
    ap result_err (skipped_on at n text (is ∙ ap Skipped e) within more)
width_passed at n text (Read kind m) is wide within more =
    let e : m ≡ n = cc in
    ap result_err (read_on at n kind text (is ∙ ap (Read kind) e) within more) ∙ same_fault _ _
width_passed at n text (Faulty error) is wide within more = cc

-- so many bytes on the first fault is the same
pub fault_on : (at n : ℕ) (text : List ℕ) → width (scan at (drop at text)) ≡ Ok n → at < length text
    → 0 < n → result_err (tokens_after text at) ≡ result_err (tokens_after text (at + n))
fault_on at n text wide within more =
    width_passed at n text (scan at (drop at text)) refl wide within more

width_stops : (at : ℕ) (error : LexError) (text : List ℕ) (f : Scan) → scan at (drop at text) ≡ f
    → width f ≡ Err error → at < length text → f ≡ Faulty error
width_stops at error text (Skipped m) is wide within = cc
width_stops at error text (Read kind m) is wide within = cc
width_stops at error text (Faulty other) is wide within = let e : other ≡ error = cc in ap Faulty e

-- what has no width doesn't read
pub stopped : (at : ℕ) (error : LexError) (text : List ℕ)
    → width (scan at (drop at text)) ≡ Err error → at < length text
    → scan at (drop at text) ≡ Faulty error
stopped at error text wide within =
    width_stops at error text (scan at (drop at text)) refl wide within
