-- What reading with marks says of a text.
use Rattle.std.proofs.Common.{◌≡◌, ℕ, List, [], ◌∷◌, ◌++◌, length, Some, None, Result, Ok, Err, refl, sym, ◌∙◌, ap, subst}
use Rattle.std.specs.Result.{result_err}
use Rattle.polis_base.specs.declared.token.Kind.{Kind}
use Rattle.polis_base.specs.declared.token.Kind.TheVariants.{Keyword, Sign}
use Rattle.polis_base.specs.declared.token.Keyword.TheVariants.{KwSettle}
use Rattle.polis_base.specs.declared.token.Sign.TheVariants.{RightBrace}
use Rattle.polis_base.specs.declared.token.Token.{Token}
use Rattle.polis_base.specs.declared.token.LexError.{LexError}
use Rattle.polis_base.specs.Tokens.{tokens_of, tokens_after, marked_after}
use Rattle.polis_base.specs.Tokens.{fault_of}
use Rattle.net_reader.specs.Lexemes.{Lexeme, lexeme, lexemes}
use Rattle.net_reader.specs.Grammar.{IsNet}
use Rattle.net_reader.specs.Reading.{Answer, whole_at}
use Rattle.net_reader.specs.Pieces.{place_of}
use Rattle.net_reader.specs.inner.Outcomes.{judged, outcome_of, outcome}
use Rattle.net_reader.specs.declared.raw.RawNet.{RawNet}
use Rattle.net_reader.specs.declared.network.NetFault.{NetFault}
use Rattle.net_reader.specs.declared.network.NetFault.TheVariants as faults
use Rattle.net_reader.proofs.Marks.{reads_marked, fault_marked, fault_from}
use Rattle.net_reader.proofs.Sentences.{whole_ok, whole_err}
use Rattle.net_reader.proofs.LastToken.{last_brace}

lexemes_last : (text : List ℕ) (ts : List Token) (m : Token)
    → lexemes text (ts ++ m ∷ []) ≡ lexemes text ts ++ lexeme text m ∷ []
lexemes_last text [] m = refl
lexemes_last text (t ∷ ts) m =
    ap (λ (ls : List Lexeme). lexeme text t ∷ ls) (lexemes_last text ts m)

-- a text whose tokens read, by what was read of it
as_read : (text : List ℕ) (tokens : List Token) (answer : Answer RawNet)
    → tokens_of text ≡ Ok tokens → whole_at (lexemes text (marked_after text 0)) ≡ answer
    → judged (length text) answer ≡ outcome text
as_read text tokens answer e h =
    let same : whole_at (lexemes text tokens) ≡ answer =
    ap (λ (ts : List Token). whole_at (lexemes text ts)) (sym (reads_marked 0 0 text tokens e))
    ∙ h in
    sym (ap (outcome_of text) e ∙ ap (judged (length text)) same)

-- a sentence has no mark
no_mark : (text : List ℕ) (net : RawNet) (fault : LexError) → tokens_of text ≡ Err fault
    → IsNet net (lexemes text (marked_after text 0)) → ⊥
no_mark text net fault e f =
    let m = fault_marked 0 0 text fault e in
    let split : lexemes text (marked_after text 0) ≡ lexemes text m.0 ++ lexeme text m.1 ∷ [] =
    ap (lexemes text) m.2 ∙ lexemes_last text m.0 m.1 in
    let brace : m.1.kind ≡ Sign RightBrace =
    last_brace net (lexemes text m.0) (lexeme text m.1) (subst (IsNet net) split f) in
    let both : ◌≡◌ {A = Kind} (Keyword KwSettle) (Sign RightBrace) = sym m.3 ∙ brace in
    cc

pub settled_ok : (text : List ℕ) (net : RawNet) (rest : List Lexeme)
    → whole_at (lexemes text (marked_after text 0)) ≡ Ok (net, rest) → Ok net ≡ outcome text
settled_ok text net rest h = by_case (tokens_of text) refl
  where
    by_case : (r : Result (List Token) LexError) → tokens_of text ≡ r
        → ◌≡◌ {A = Result RawNet NetFault} (Ok net) (outcome text)
    by_case (Ok tokens) e = as_read text tokens (Ok (net, rest)) e h
    by_case (Err fault) e = absurd
        (no_mark text net fault e (whole_ok (lexemes text (marked_after text 0)) rest net h))

pub settled_syntax : (text : List ℕ) (rest : List Lexeme)
    → whole_at (lexemes text (marked_after text 0)) ≡ Err rest → None ≡ fault_of text
    → Err (faults.Syntax (place_of (length text) rest)) ≡ outcome text
settled_syntax text rest h none = by_case (tokens_of text) refl
  where
    by_case : (r : Result (List Token) LexError) → tokens_of text ≡ r
        → ◌≡◌ {A = Result RawNet NetFault} (Err (faults.Syntax (place_of (length text) rest)))
        (outcome text)
    by_case (Ok tokens) e = as_read text tokens (Err rest) e h
    by_case (Err fault) e = absurd (cc (none, e))

pub settled_lex : (text : List ℕ) (fault : LexError) → Some fault ≡ fault_of text
    → Err (faults.Lex fault) ≡ outcome text
settled_lex text fault found = by_case (tokens_of text) refl
  where
    by_case : (r : Result (List Token) LexError) → tokens_of text ≡ r
        → ◌≡◌ {A = Result RawNet NetFault} (Err (faults.Lex fault)) (outcome text)
    by_case (Ok tokens) e = absurd (cc (found, e))
    by_case (Err error) e =
        let same : fault ≡ error = cc in
        ap (λ (x : LexError). Err (faults.Lex x)) same ∙ sym (ap (outcome_of text) e)

-- the first fault of a text in which reading stopped, from there on
pub fault_left : (text : List ℕ) (rest : List Lexeme) (place : ℕ)
    → whole_at (lexemes text (marked_after text 0)) ≡ Err rest → place ≡ place_of 0 rest
    → result_err (tokens_after text place) ≡ fault_of text
fault_left text rest place h e =
    let f = whole_err (lexemes text (marked_after text 0)) rest h in
    ap (λ p. result_err (tokens_after text p)) e ∙ fault_from text f.before rest f.split
