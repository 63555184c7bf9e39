-- All of the tokens: a sentence has one list of declarations, and one place of fault.
use Rattle.std.proofs.Common.{◌≡◌, ◌⊎◌, inl, inr, ℕ, List, [], ◌∷◌, ◌++◌, length, Result, Ok, Err, IfOk, refl, sym, ◌∙◌, ap, subst, append_assoc, append-nil}
use Rattle.polis_base.specs.Tokens.{tokens_of}
use Rattle.polis_base.specs.declared.token.Token.{Token}
use Rattle.polis_base.specs.declared.token.LexError.{LexError}
use Rattle.net_reader.specs.Lexemes.{Lexeme, lexemes}
use Rattle.net_reader.specs.Grammar.{IsNet, BeginsSentence}
use Rattle.net_reader.specs.Reading.{Answer, ◌>>=◌, net_at, end_at, whole_at}
use Rattle.net_reader.specs.Pieces.{place_of}
use Rattle.net_reader.specs.Sentences.{HasNet, HasOnly, BreaksAt, Stops, OrNoMemory}
use Rattle.net_reader.specs.inner.Outcomes.{judged, outcome_of, outcome}
use Rattle.net_reader.specs.declared.raw.RawNet.{RawNet}
use Rattle.net_reader.specs.declared.network.NetFault.{NetFault}
use Rattle.net_reader.specs.declared.network.NetFault.TheVariants as faults
use Rattle.net_reader.proofs.Laws.{bind_ok, bind_err, step}
use Rattle.net_reader.proofs.NetworkLaws.{net_laws}

end_ok : (ls rest : List Lexeme) → end_at ls ≡ Ok (tt, rest) → ls ≡ []
unfolding end_at
end_ok [] rest h = refl
end_ok (l ∷ ls) rest h = absurd cc

end_err : (ls rest : List Lexeme) → end_at ls ≡ Err rest
    → (l : Lexeme) × (tail : List Lexeme) × (ls ≡ l ∷ tail) × (rest ≡ l ∷ tail)
unfolding end_at
end_err [] rest h = absurd cc
end_err (l ∷ ls) rest h = (l, ls, refl, cc)

same_ok : {A : Type 0} (x y : A × List Lexeme) → ◌≡◌ {A = Answer A} (Ok x) (Ok y) → x ≡ y
same_ok x y h = cc

pub whole_ok : (ls rest : List Lexeme) (net : RawNet) → whole_at ls ≡ Ok (net, rest) → IsNet net ls
unfolding whole_at
whole_ok ls rest net h =
    let k = bind_ok (net_at ls) (λ x. end_at x.1 >>= λ e. Ok (x.0, e.1)) (net, rest) h in
    let e = bind_ok (end_at k.0.1) (λ e. Ok (k.0.0, e.1)) (net, rest) k.2 in
    let n : k.0.0 ≡ net = ap (λ (z : RawNet × List Lexeme). z.0)
    (same_ok (k.0.0, e.0.1) (net, rest) e.2) in
    let t = net_laws.reads ls k.0.1 k.0.0 k.1 in
    let all : ls ≡ t.used = t.is ∙ ap (λ m. t.used ++ m) (end_ok k.0.1 e.0.1 e.1)
    ∙ append-nil t.used in
    subst (λ (z : RawNet). IsNet z ls) n (subst (IsNet k.0.0) (sym all) t.fits)

pub net_sentence : (ls : List Lexeme) (net : RawNet) → IsNet net ls → net_at ls ≡ Ok (net, [])
net_sentence ls net f = ap net_at (sym (append-nil ls)) ∙ net_laws.complete ls [] net f refl

pub whole_sentence : (ls : List Lexeme) (net : RawNet) → IsNet net ls → whole_at ls ≡ Ok (net, [])
unfolding whole_at end_at
whole_sentence ls net f = step (net_at ls) (λ x. end_at x.1 >>= λ e. Ok (x.0, e.1)) (net, []) _
    (net_sentence ls net f) refl

-- no sentence goes on with a token at which reading stops whatever follows
none_goes_on : (before : List Lexeme) (l : Lexeme)
    → ((later : List Lexeme) (net : RawNet) → net_at (before ++ l ∷ later) ≡ Ok (net, []) → ⊥)
    → BeginsSentence (before ++ l ∷ []) → ⊥
none_goes_on before l never b = never b.0 b.1
    (ap net_at (sym (append_assoc before (l ∷ []) b.0))
    ∙ net_sentence ((before ++ l ∷ []) ++ b.0) b.1 b.2)

pub record Fault (ls rest : List Lexeme) : Type 0 where
  pub before : List Lexeme
  pub split : ls ≡ before ++ rest
  pub begins : BeginsSentence before
  pub stops : Stops before rest

stops_at : (ls before rest : List Lexeme) → ls ≡ before ++ rest → net_at ls ≡ Err rest
    → ((l : Lexeme) (tail later : List Lexeme) → rest ≡ l ∷ tail → net_at (before ++ l ∷ later)
    ≡ Err (l ∷ later))
    → Stops before rest
stops_at ls before [] is h same =
    λ net f. absurd (cc (net_sentence before net f, ap net_at (is ∙ append-nil before), h))
stops_at ls before (l ∷ rest) is h same =
    none_goes_on before l (λ later net ok. absurd (cc (ok, same l rest later refl)))

read_on : (ls rest : List Lexeme) (x : RawNet × List Lexeme) → net_at ls ≡ Ok x
    → (end_at x.1 >>= λ e. Ok (x.0, e.1)) ≡ Err rest → Fault ls rest
read_on ls rest x h k = after (bind_err (end_at x.1) (λ e. Ok (x.0, e.1)) rest k)
  where
    after : (end_at x.1 ≡ Err rest)
        ⊎ ((e : Unit {0} × List Lexeme) × (end_at x.1 ≡ Ok e)
        × (◌≡◌ {A = Answer RawNet} (Ok (x.0, e.1)) (Err rest)))
        → Fault ls rest
    after (inr e) = absurd (cc e.2)
    after (inl e) =
        let s = end_err x.1 rest e in
        let t = net_laws.reads ls x.1 x.0 h in
        record {
          before = t.used;
          split = t.is ∙ ap (λ m. t.used ++ m) (s.2 ∙ sym s.3);
          begins = ([], x.0, subst (IsNet x.0) (sym (append-nil t.used)) t.fits);
          stops = subst (Stops t.used) (sym s.3) (none_goes_on t.used s.0 (λ later net ok.
              let both : (net, []) ≡ (x.0, s.0 ∷ later) = same_ok (net, []) (x.0, s.0 ∷ later)
              (sym ok ∙ t.same s.0 s.1 later s.2) in
              let ends : [] ≡ s.0 ∷ later = ap (λ (z : RawNet × List Lexeme). z.1) both in
              absurd cc));
        }

pub whole_err : (ls rest : List Lexeme) → whole_at ls ≡ Err rest → Fault ls rest
unfolding whole_at
whole_err ls rest h = split (bind_err (net_at ls) (λ x. end_at x.1 >>= λ e. Ok (x.0, e.1)) rest h)
  where
    split : (net_at ls ≡ Err rest) ⊎ ((x : RawNet × List Lexeme) × (net_at ls ≡ Ok x)
        × ((end_at x.1 >>= λ e. Ok (x.0, e.1)) ≡ Err rest))
        → Fault ls rest
    split (inl e) =
        let b = net_laws.breaks ls rest e in
        record {
          before = b.before;
          split = b.is;
          begins = (b.fix, b.value, b.fits);
          stops =
              stops_at ls b.before rest b.is e b.same;
        }
    split (inr k) = read_on ls rest k.0 k.1 k.2

-- one place

prefix_begins : (xs ys : List Lexeme) → BeginsSentence (xs ++ ys) → BeginsSentence xs
prefix_begins xs ys b = (ys ++ b.0, b.1, subst (IsNet b.1) (append_assoc xs ys b.0) b.2)

same_rest : (B : List Lexeme → Type 0) → ((xs ys : List Lexeme) → B (xs ++ ys) → B xs)
    → (before rest before2 rest2 : List Lexeme) → before ++ rest ≡ before2 ++ rest2 → B before
    → B before2
    → ((l : Lexeme) (tail : List Lexeme) → rest ≡ l ∷ tail → B (before ++ l ∷ []) → ⊥)
    → ((l : Lexeme) (tail : List Lexeme) → rest2 ≡ l ∷ tail → B (before2 ++ l ∷ []) → ⊥) → rest
    ≡ rest2
same_rest B prefix [] rest [] rest2 h b b2 never never2 = h
same_rest B prefix [] rest (m ∷ before2) rest2 h b b2 never never2 =
    absurd (never m (before2 ++ rest2) h (prefix (m ∷ []) before2 b2))
same_rest B prefix (l ∷ before) rest [] rest2 h b b2 never never2 =
    absurd (never2 l (before ++ rest) (sym h) (prefix (l ∷ []) before b))
same_rest B prefix (l ∷ before) rest (m ∷ before2) rest2 h b b2 never never2 =
    let e : m ≡ l = cc in
    let tails : before ++ rest ≡ before2 ++ rest2 = cc in
    same_rest (λ xs. B (l ∷ xs)) (λ xs ys c. prefix (l ∷ xs) ys c) before rest before2 rest2 tails b
    (subst (λ (x : Lexeme). B (x ∷ before2)) e b2) never
    (λ k tail q c. never2 k tail q (subst (λ (x : Lexeme). B (x ∷ before2 ++ k ∷ [])) (sym e)
    c))

stops_next : (before rest : List Lexeme) → Stops before rest → (l : Lexeme) (tail : List Lexeme)
    → rest ≡ l ∷ tail → BeginsSentence (before ++ l ∷ []) → ⊥
stops_next before [] s l tail e b = absurd cc
stops_next before (m ∷ rest) s l tail e b =
    let same : l ≡ m = cc in s (subst (λ (x : Lexeme). BeginsSentence (before ++ x ∷ [])) same b)

one_rest : (ls before rest : List Lexeme) → ls ≡ before ++ rest → BeginsSentence before
    → Stops before rest → (rest2 : List Lexeme) → Fault ls rest2 → rest ≡ rest2
one_rest ls before rest split b s rest2 f = same_rest BeginsSentence prefix_begins before rest
    f.before rest2 (sym split ∙ f.split) b f.begins (stops_next before rest s)
    (stops_next f.before rest2 f.stops)

-- a text with a place of fault is no sentence
no_sentence : (ls before rest : List Lexeme) (net : RawNet) → ls ≡ before ++ rest
    → Stops before rest → IsNet net ls → ⊥
no_sentence ls before [] net split s f = s net (subst (IsNet net) (split ∙ append-nil before) f)
no_sentence ls before (l ∷ rest) net split s f =
    s (rest, net, subst (IsNet net) (split ∙ sym (append_assoc before (l ∷ []) rest)) f)

-- the answers

pub judged_net : (end : ℕ) (ls : List Lexeme) (r : Answer RawNet) (net : RawNet) → whole_at ls ≡ r
    → judged end r ≡ Ok net → IsNet net ls
judged_net end ls (Ok x) net h e =
    let same : x.0 ≡ net = cc in subst (λ (z : RawNet). IsNet z ls) same (whole_ok ls x.1 x.0 h)
judged_net end ls (Err rest) net h e = absurd cc

pub has_net : (text : List ℕ) (r : Result (List Token) LexError) (net : RawNet) → tokens_of text ≡ r
    → outcome_of text r ≡ Ok net → HasNet text net
has_net text (Ok tokens) net h e = record {
  tokens = tokens;
  read = h;
  sentence = judged_net (length text) (lexemes text tokens)
      (whole_at (lexemes text tokens)) net refl e;
}
has_net text (Err fault) net h e = absurd cc

pub net_outcome : (text : List ℕ) (net : RawNet) → HasNet text net → outcome text ≡ Ok net
net_outcome text net h =
    ap (outcome_of text) h.read
    ∙ ap (judged (length text)) (whole_sentence (lexemes text h.tokens) net h.sentence)

breaks_judged : (text : List ℕ) (tokens : List Token) (r : Answer RawNet) (place : ℕ)
    → tokens_of text ≡ Ok tokens → whole_at (lexemes text tokens) ≡ r
    → judged (length text) r ≡ Err (faults.Syntax place) → BreaksAt text place
breaks_judged text tokens (Ok x) place read h e = absurd cc
breaks_judged text tokens (Err rest) place read h e =
    let f = whole_err (lexemes text tokens) rest h in
    record {
      tokens = tokens;
      read = read;
      before = f.before;
      rest = rest;
      split = f.split;
      begins =
          f.begins;
      stops = f.stops;
      here = cc;
    }

pub breaks_at : (text : List ℕ) (r : Result (List Token) LexError) (place : ℕ) → tokens_of text ≡ r
    → outcome_of text r ≡ Err (faults.Syntax place) → BreaksAt text place
breaks_at text (Ok tokens) place h e =
    breaks_judged text tokens (whole_at (lexemes text tokens)) place h refl e
breaks_at text (Err fault) place h e = absurd cc

judged_break : (text : List ℕ) (place : ℕ) (b : BreaksAt text place) (r : Answer RawNet)
    → whole_at (lexemes text b.tokens) ≡ r → judged (length text) r ≡ Err (faults.Syntax place)
judged_break text place b (Ok x) h = absurd
    (no_sentence (lexemes text b.tokens) b.before b.rest x.0 b.split b.stops
    (whole_ok (lexemes text b.tokens) x.1 x.0 h))
judged_break text place b (Err rest) h =
    let same = one_rest (lexemes text b.tokens) b.before b.rest b.split b.begins b.stops rest
    (whole_err (lexemes text b.tokens) rest h) in
    ap (λ (m : List Lexeme). Err (faults.Syntax (place_of (length text) m))) (sym same)
    ∙ ap (λ (n : ℕ). Err (faults.Syntax n)) (sym b.here)

pub break_outcome : (text : List ℕ) (place : ℕ) → BreaksAt text place
    → outcome text ≡ Err (faults.Syntax place)
break_outcome text place b =
    ap (outcome_of text) b.read ∙ judged_break text place b (whole_at (lexemes text b.tokens)) refl

-- the clauses of a settled answer

pub ok_clause : (text : List ℕ) (r : Result RawNet NetFault) → OrNoMemory r (outcome text)
    → IfOk r (λ net. HasOnly text net)
ok_clause text (Ok net) (inl e) = absurd cc
ok_clause text (Ok net) (inr e) = record {
  has = has_net text (tokens_of text) net refl (sym e);
  only = λ other h. cc (net_outcome text other h);
}
ok_clause text (Err fault) s = tt

pub ok_there_clause : (text : List ℕ) (r : Result RawNet NetFault) → OrNoMemory r (outcome text)
    → (net : RawNet) → HasNet text net → OrNoMemory r (Ok net)
ok_there_clause text r (inl e) net h = inl e
ok_there_clause text r (inr e) net h = inr (e ∙ net_outcome text net h)

pub syntax_clause : (text : List ℕ) (r : Result RawNet NetFault) → OrNoMemory r (outcome text)
    → (place : ℕ) → r ≡ Err (faults.Syntax place) → BreaksAt text place
syntax_clause text r (inl e) place h = absurd (cc (e, h))
syntax_clause text r (inr e) place h = breaks_at text (tokens_of text) place refl (sym e ∙ h)

pub syntax_there_clause : (text : List ℕ) (r : Result RawNet NetFault) → OrNoMemory r (outcome text)
    → (place : ℕ) → BreaksAt text place → OrNoMemory r (Err (faults.Syntax place))
syntax_there_clause text r (inl e) place h = inl e
syntax_there_clause text r (inr e) place h = inr (e ∙ break_outcome text place h)
