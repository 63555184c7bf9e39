-- What a text whose tokens are known reads as, from a place on.
use Rattle.std.proofs.Common.{◌≡◌, ℕ, suc, ◌+◌, ◌-◌, Bool, true, List, ◌∷◌, ◌++◌, length, take, drop, Result, Ok, refl, sym, ◌∙◌, ap, subst, arith, add-zero, []}
use Rattle.std.specs.List.{list_all}
use Rattle.std.proofs.lemmas.List.{append_assoc, length-append}
use Rattle.polis_base.specs.declared.token.Kind.{Kind}
use Rattle.polis_base.specs.declared.token.Token.{Token}
use Rattle.polis_base.specs.declared.token.LexError.{LexError}
use Rattle.polis_base.specs.Tokens.{scan, is_blank, bytes_in, with_token, joined, tokens_from}
use Rattle.net_reader.specs.Lexemes.{Lexeme, lexemes}
use Rattle.net_reader.specs.Grammar.{Part, ◌⨾◌, Only}
use Rattle.polis_base.proofs.TokensFrom.{passed}
use Rattle.polis_base.proofs.Bools.{and_first, and_second}

-- from a place on the bytes read as these tokens, whatever stood before
pub record Lexed (at : ℕ) (bytes : List ℕ) (ls : List Lexeme) : Type 0 where
  pub tokens : List Token
  pub read : tokens_from at 0 bytes ≡ Ok tokens
  pub same : (before : List ℕ) → length before ≡ at → lexemes (before ++ bytes) tokens ≡ ls

pub nothing_left : (at : ℕ) → Lexed at [] []
nothing_left at = record { tokens = []; read = refl; same = λ before h. refl }

-- the same at an equal place, of equal bytes and tokens
pub moved : (at to : ℕ) (bytes new : List ℕ) (ls ms : List Lexeme) → at ≡ to → bytes ≡ new → ls ≡ ms
    → Lexed at bytes ls → Lexed to new ms
moved at to bytes new ls ms p q r l = record {
  tokens = l.tokens;
  read = rw (← p, ← q) l.read;
  same = λ before h. rw (← q, ← r) (l.same before (h ∙ sym p));
}

-- blanks before are passed over
pub skips : (blanks bytes : List ℕ) (at : ℕ) (ls : List Lexeme) → list_all is_blank blanks ≡ true
    → Lexed (at + length blanks) bytes ls → Lexed at (blanks ++ bytes) ls
skips [] bytes at ls blank l = moved (at + 0) at bytes bytes ls ls (add-zero at) refl refl l
skips (c ∷ blanks) bytes at ls blank l =
    let here : is_blank c ≡ true = and_first (is_blank c) (list_all is_blank blanks) blank in
    let e : at + length (c ∷ blanks) ≡ at + 1 + length blanks = omega arith in
    let later : Lexed (at + 1) (blanks ++ bytes) ls = skips blanks bytes (at + 1) ls
    (and_second (is_blank c) _ blank) (moved _ _ _ _ _ _ e refl refl l) in
    let size : bytes_in (scan at (c ∷ (blanks ++ bytes))) ≡ 1 = rw here refl in
    let over : joined (scan at (c ∷ (blanks ++ bytes))) at
    (tokens_from (at + 1) 0 (blanks ++ bytes))
    ≡ tokens_from (at + 1) 0 (blanks ++ bytes) = rw here refl in
    record {
      tokens = later.tokens;
      read =
          ap (λ (n : ℕ). joined (scan at (c ∷ (blanks ++ bytes))) at
          (tokens_from (at + 1) (n - 1) (blanks ++ bytes))) size
          ∙ over ∙ later.read;
      same = λ before h.
          let n : length (before ++ c ∷ []) ≡ at + 1 = length-append before (c ∷ [])
          ∙ ap (λ (m : ℕ). m + 1) h in
          ap (λ (text : List ℕ). lexemes text later.tokens)
          (sym (append_assoc before (c ∷ []) (blanks ++ bytes)))
          ∙ later.same (before ++ c ∷ []) n;
    }

dropped : (w rest : List ℕ) → drop (length w) (w ++ rest) ≡ rest
dropped [] rest = refl
dropped (c ∷ w) rest = dropped w rest

taken_first : (w rest : List ℕ) → take (length w) (w ++ rest) ≡ w
taken_first [] rest = refl
taken_first (c ∷ w) rest = ap (λ (v : List ℕ). c ∷ v) (taken_first w rest)

dropped_at : (before bytes : List ℕ) (at : ℕ) → length before ≡ at
    → drop at (before ++ bytes) ≡ bytes
dropped_at before bytes at h =
    ap (λ (n : ℕ). drop n (before ++ bytes)) (sym h) ∙ dropped before bytes

-- what stands at a place is a token of n bytes
pub record ReadsAs (at : ℕ) (bytes : List ℕ) (kind : Kind) (n : ℕ) : Type 0 where
  pub size : bytes_in (scan at bytes) ≡ n
  pub token : (read : Result (List Token) LexError)
      → joined (scan at bytes) at read ≡ with_token (record { kind = kind; at = at; len = n }) read

-- a token
pub reads : (c : ℕ) (w rest : List ℕ) (kind : Kind) (at : ℕ) (ls : List Lexeme)
    → ReadsAs at ((c ∷ w) ++ rest) kind (length (c ∷ w)) → Lexed (at + length (c ∷ w)) rest ls
    → Lexed at ((c ∷ w) ++ rest) (record { kind = kind; bytes = c ∷ w; at = at } ∷ ls)
reads c w rest kind at ls is l =
    let n = length w in
    let token : Token = record { kind = kind; at = at; len = suc n } in
    let e : suc n - 1 ≡ n = omega arith in
    let place : at + 1 + n ≡ at + suc n = omega arith in
    let after : tokens_from (at + 1) (bytes_in (scan at ((c ∷ w) ++ rest)) - 1) (w ++ rest)
    ≡ Ok l.tokens =
    ap (λ (m : ℕ). tokens_from (at + 1) (m - 1) (w ++ rest)) is.size
    ∙ ap (λ (m : ℕ). tokens_from (at + 1) m (w ++ rest)) e ∙ passed (at + 1) n (w ++ rest)
    ∙ ap (λ (i : ℕ). tokens_from i 0 (drop n (w ++ rest))) place
    ∙ ap (tokens_from (at + suc n) 0) (dropped w rest) ∙ l.read in
    record {
      tokens = token ∷ l.tokens;
      read =
          is.token (tokens_from (at + 1) (bytes_in (scan at ((c ∷ w) ++ rest)) - 1) (w ++ rest))
          ∙ ap (λ (r : Result (List Token) LexError). with_token token r) after;
      same = λ before h.
          let m : length (before ++ c ∷ w) ≡ at + suc n = length-append before (c ∷ w)
          ∙ ap (λ (m : ℕ). m + suc n) h in
          let first : take (suc n) (drop at (before ++ ((c ∷ w) ++ rest))) ≡ c
          ∷ w = ap (take (suc n)) (dropped_at before ((c ∷ w) ++ rest) at h)
          ∙ taken_first (c ∷ w) rest in
          let later : lexemes (before ++ ((c ∷ w) ++ rest)) l.tokens
          ≡ ls = ap (λ (text : List ℕ). lexemes text l.tokens)
          (sym (append_assoc before (c ∷ w) rest)) ∙ l.same (before ++ c ∷ w) m in
          λ i. record { kind = kind; bytes = first i; at = at } ∷ later i;
    }

-- whatever may stand after
abbrev pub any : List ℕ → Bool
any bytes = true

-- Wherever the text stands, with something after that may stand there, its tokens are of P, and
-- then come those after.
pub record Made (next : List ℕ → Bool) (P : Part) (text : List ℕ) : Type 0 where
  pub made : (at : ℕ) (rest : List ℕ) (ls : List Lexeme) → next rest ≡ true
      → Lexed (at + length text) rest ls
      → (ms : List Lexeme) × P ms × Lexed at (text ++ rest) (ms ++ ls)

pub conv : {next : List ℕ → Bool} {P Q : Part} {text : List ℕ} → Made next P text
    → ((ms : List Lexeme) → P ms → Q ms) → Made next Q text
conv m f =
    record { made = λ at rest ls h l. let x = m.made at rest ls h l in (x.0, f x.0 x.1, x.2) }

-- one text after another
pub seq : {n k : List ℕ → Bool} {P Q : Part} {t u : List ℕ} → Made n P t → Made k Q u
    → ((rest : List ℕ) → k rest ≡ true → n (u ++ rest) ≡ true) → Made k (P ⨾ Q) (t ++ u)
seq {t = t} {u = u} p q fits = record {
  made = λ at rest ls h l.
      let place : at + length (t ++ u)
      ≡ at + length t + length u = (let e = length-append t u in omega arith) in
      let y = q.made (at + length t) rest ls h (moved _ _ _ _ _ _ place refl refl l) in
      let x = p.made at (u ++ rest) (y.0 ++ ls) (fits rest h) y.2 in (
        x.0 ++ y.0,
        (x.0, y.0, refl, x.1, y.1),
        moved at at _ _ _ _ refl
            (sym (append_assoc t u rest)) (sym (append_assoc x.0 y.0 ls)) x.2,
      );
}

-- one token with blanks round it
pub lit : (before : List ℕ) (c : ℕ) (w after : List ℕ) (kind : Kind)
    → list_all is_blank before ≡ true → list_all is_blank after ≡ true
    → ((at : ℕ) (rest : List ℕ) → ReadsAs at ((c ∷ w) ++ (after ++ rest)) kind (length (c ∷ w)))
    → Made any (Only kind) (before ++ ((c ∷ w) ++ after))
lit before c w after kind blank blank_too is = record {
  made = λ at rest ls h l.
      let b = length before in
      let n = length (c ∷ w) in
      let place : at + length (before ++ ((c ∷ w) ++ after))
      ≡ at + b + n + length after = (let e = length-append before ((c ∷ w) ++ after) in let f =
      length-append (c ∷ w) after in omega arith) in
      let left = skips after rest (at + b + n) ls blank_too (moved _ _ _ _ _ _ place refl refl l) in
      let here : Lexeme = record { kind = kind; bytes = c ∷ w; at = at + b } in
      let token = reads c w (after ++ rest) kind (at + b) ls (is (at + b) rest) left in
      let whole = skips before ((c ∷ w) ++ (after ++ rest)) at (here ∷ ls) blank token in
      let text : before ++ ((c ∷ w) ++ (after ++ rest)) ≡ (before ++ ((c ∷ w) ++ after))
      ++ rest = ap (λ (v : List ℕ). before ++ v) (sym (append_assoc (c ∷ w) after rest))
      ∙ sym (append_assoc before ((c ∷ w) ++ after) rest) in
      (here ∷ [], (here, refl, refl), moved at at _ _ _ _ refl text refl whole);
}

-- blanks after
pub trail : {n : List ℕ → Bool} {P : Part} {t : List ℕ} (blanks : List ℕ) → Made n P t
    → list_all is_blank blanks ≡ true → ((rest : List ℕ) → n (blanks ++ rest) ≡ true)
    → Made any P (t ++ blanks)
trail {t = t} blanks p blank fits = record {
  made = λ at rest ls h l.
      let place : at + length (t ++ blanks)
      ≡ at + length t + length blanks = (let e = length-append t blanks in omega arith) in
      let y = skips blanks rest (at + length t) ls blank (moved _ _ _ _ _ _ place refl refl l) in
      let x = p.made at (blanks ++ rest) ls (fits rest) y in
      (x.0, x.1, moved at at _ _ _ _ refl (sym (append_assoc t blanks rest)) refl x.2);
}

pub retext : {n : List ℕ → Bool} {P : Part} {t u : List ℕ} → t ≡ u → Made n P t → Made n P u
retext {n = n} {P = P} e m = subst (λ (v : List ℕ). Made n P v) e m
