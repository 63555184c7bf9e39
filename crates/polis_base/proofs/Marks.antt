-- Tokens with a mark where one doesn't read: what they are from a place on, by what stands there.
use Rattle.std.proofs.Common.{◌≡◌, ℕ, zero, suc, ◌+◌, ◌-◌, ◌<◌, ◌≤◌, List, [], ◌∷◌, length, drop, refl, sym, ◌∙◌, ap, arith, add-zero}
use Rattle.std.proofs.lemmas.List.{drop-drop, drop_all, length-drop}
use Rattle.polis_base.specs.declared.token.Kind.{Kind}
use Rattle.polis_base.specs.declared.token.LexError.{LexError}
use Rattle.polis_base.specs.declared.lex.Scan.{Scan}
use Rattle.polis_base.specs.declared.lex.Scan.TheVariants.{Skipped, Read, Faulty}
use Rattle.polis_base.specs.Tokens.{scan, bytes_in, mark, marked, marked_from, marked_after}
use Rattle.polis_base.proofs.TokensFrom.{drop_first}

-- the first bytes are passed over
passed : (at n : ℕ) (bytes : List ℕ)
    → marked_from at n bytes ≡ marked_from (at + n) 0 (drop n bytes)
passed at zero bytes = rw add-zero refl
passed at (suc n) [] = refl
passed at (suc n) (c ∷ rest) =
    let e : at + 1 + n ≡ at + suc n = omega arith in
    passed (at + 1) n rest ∙ ap (λ i. marked_from i 0 (drop n rest)) e

step : (at : ℕ) (bytes : List ℕ) (f : Scan) → scan at bytes ≡ f → 0 < length bytes → 0 < bytes_in f
    → marked_from at 0 bytes ≡ marked f at (length bytes)
    (marked_from (at + bytes_in f) 0 (drop (bytes_in f) bytes))
step at [] f is some more = absurd (omega arith)
step at (c ∷ rest) f is some more =
    let n = bytes_in f in
    let e : at + 1 + (n - 1) ≡ at + n = omega arith in
    ap (λ g. marked g at (length (c ∷ rest)) (marked_from (at + 1) (bytes_in g - 1) rest)) is
    ∙ ap (marked f at (length (c ∷ rest))) (passed (at + 1) (n - 1) rest
    ∙ ap (λ i. marked_from i 0 (drop (n - 1) rest)) e
    ∙ ap (marked_from (at + n) 0) (drop_first n c rest more))

from_place : (at : ℕ) (text : List ℕ) (f : Scan) → scan at (drop at text) ≡ f → at < length text
    → 0 < bytes_in f
    → marked_after text at ≡ marked f at (length (drop at text)) (marked_after text (at + bytes_in f))
from_place at text f is within more =
    let some : 0 < length (drop at text) = rw (length-drop at text) (omega arith) in
    step at (drop at text) f is some more
    ∙ ap (λ bytes. marked f at (length (drop at text)) (marked_from (at + bytes_in f) 0 bytes))
    (drop-drop (bytes_in f) at text)

pub skipped_marked : (at n : ℕ) (text : List ℕ) → scan at (drop at text) ≡ Skipped n
    → at < length text → 0 < n → marked_after text at ≡ marked_after text (at + n)
skipped_marked at n text is within more = from_place at text (Skipped n) is within more

pub read_marked : (at n : ℕ) (kind : Kind) (text : List ℕ) → scan at (drop at text) ≡ Read kind n
    → at < length text → 0 < n
    → marked_after text at ≡ record { kind = kind; at = at; len = n } ∷ marked_after text (at + n)
read_marked at n kind text is within more = from_place at text (Read kind n) is within more

pub none_marked : (at : ℕ) (text : List ℕ) → length text ≤ at → marked_after text at ≡ []
none_marked at text end = ap (λ bytes. marked_from at 0 bytes) (drop_all at text end)

-- the mark takes all that is left
pub faulty_marked : (at : ℕ) (error : LexError) (text : List ℕ)
    → scan at (drop at text) ≡ Faulty error → at < length text
    → marked_after text at ≡ mark at (length text - at)
    ∷ marked_after text (at + (length text - at))
faulty_marked at error text is within =
    from_place at text (Faulty error) is within (omega arith)
    ∙ ap (λ n. mark at n ∷ []) (length-drop at text)
    ∙ ap (λ ts. mark at (length text - at) ∷ ts)
    (sym (none_marked (at + (length text - at)) text (omega arith)))
