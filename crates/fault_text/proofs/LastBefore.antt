-- The last token before a place, as a walk over the tokens finds it.
use Rattle.std.proofs.Common.{◌≡◌, ℕ, ◌+◌, ◌≤◌, ◌<◌, true, false, nat_lt, List, [], ◌∷◌, length, filter, Option, Some, None, Result, Ok, Err, refl, sym, ap, subst, ◌∙◌, arith}
use Rattle.std.specs.Prelude.{IfSome}
use Rattle.std.specs.List.{last_or}
use Rattle.std.specs.Result.{is_ok, result_unwrap_or}
use Rattle.std.proofs.lemmas.Bool.{false≢true, lt-ltb, le-ltb}
use Rattle.polis_base.specs.declared.token.Token.{Token}
use Rattle.polis_base.specs.declared.token.LexError.{LexError}
use Rattle.polis_base.specs.Spans.{AreInOrder, IsNext}
use Rattle.polis_base.specs.Tokens.{with_token, tokens_of, tokens_after}
use Rattle.polis_base.proofs.Spans.{tokens_in_order}
use Rattle.fault_text.specs.TokensBefore.{tokens_in, last_before}

-- the tokens from a place of a text on, none where they don't read
abbrev pub tokens_on : List ℕ → ℕ → List Token
tokens_on text from = result_unwrap_or (tokens_after text from) []

-- the tokens that begin before a place
abbrev early : ℕ → List Token → List Token
early place = filter (λ token. nat_lt token.at place)

-- What is known at a place from which the walk goes on: all reads, and the last token before the
-- wanted place is the last of those so far and of those that are left.
pub record Walked (text : List ℕ) (place from : ℕ) (last : Option Token) : Type 0 where
  pub reads : is_ok (tokens_after text from) ≡ true
  pub order : AreInOrder from (tokens_on text from)
  pub within : IfSome last (λ token. token.at + token.len ≤ length text)
  pub left : last_before place (tokens_in text) ≡ last_or last (early place (tokens_on text from))

read_whole : (read : Result (List Token) LexError) → is_ok read ≡ true
    → read ≡ Ok (result_unwrap_or read [])
read_whole (Ok tokens) ok = refl
read_whole (Err error) ok = absurd (false≢true ok)

with_first : (token : Token) (read : Result (List Token) LexError) → is_ok read ≡ true
    → result_unwrap_or (with_token token read) [] ≡ token ∷ result_unwrap_or read []
with_first token (Ok tokens) ok = refl
with_first token (Err error) ok = absurd (false≢true ok)

none_early : (place from : ℕ) (tokens : List Token) → place ≤ from → AreInOrder from tokens
    → early place tokens ≡ []
none_early place from [] late order = refl
none_early place from (token ∷ tokens) late order =
    let here = order.0 in
    let is : nat_lt token.at place ≡ false = le-ltb token.at place (omega arith) in
    rw is (none_early place (token.at + token.len) tokens (omega arith) order.1)

pub begin_walk : (text : List ℕ) (place : ℕ) → is_ok (tokens_of text) ≡ true
    → Walked text place 0 None
begin_walk text place ok = record {
  reads = ok;
  order = tokens_in_order text (tokens_in text) (read_whole (tokens_of text) ok);
  within = tt;
  left = refl;
}

-- the tokens that are left are this one and those after it
next_first : (text : List ℕ) (from : ℕ) (token : Token) → is_ok (tokens_after text from) ≡ true
    → IsNext text from token
    → tokens_on text from ≡ token ∷ tokens_on text (token.at + token.len)
next_first text from token reads next =
    let read = next.read reads in
    ap (λ (r : Result (List Token) LexError). result_unwrap_or r []) read.first
    ∙ with_first token (tokens_after text (token.at + token.len)) read.rest

-- the walk goes on after a token before the place
pub walk_on : (text : List ℕ) (place from : ℕ) (last : Option Token) (token : Token)
    → Walked text place from last → IsNext text from token → token.at < place
    → Walked text place (token.at + token.len) (Some token)
walk_on text place from last token walked next early_one =
    let first = next_first text from token walked.reads next in
    let order = subst (λ (tokens : List Token). AreInOrder from tokens) first walked.order in
    let is : nat_lt token.at place ≡ true = lt-ltb token.at place early_one in
    record {
      reads = (next.read walked.reads).rest;
      order = order.1;
      within = next.within;
      left = walked.left
          ∙ ap (λ (tokens : List Token). last_or last (early place tokens)) first
          ∙ rw is refl;
    }

-- the walk ends at a token that doesn't begin before the place
pub walk_stops : (text : List ℕ) (place from : ℕ) (last : Option Token) (token : Token)
    → Walked text place from last → IsNext text from token → place ≤ token.at
    → last ≡ last_before place (tokens_in text)
walk_stops text place from last token walked next late =
    let first = next_first text from token walked.reads next in
    let order = subst (λ (tokens : List Token). AreInOrder from tokens) first walked.order in
    let none = none_early place token.at (token ∷ tokens_on text (token.at + token.len)) late
    (omega arith, order.1) in
    sym (walked.left
    ∙ ap (λ (tokens : List Token). last_or last (early place tokens)) first
    ∙ ap (λ (tokens : List Token). last_or last tokens) none)
