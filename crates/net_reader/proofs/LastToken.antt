-- A sentence without its last token is none.
use Rattle.std.proofs.Common.{◌≡◌, ℕ, false, List, [], ◌∷◌, ◌++◌, length, Result, Ok, Err, refl, sym, ◌∙◌, ap, append_assoc, append-nil}
use Rattle.polis_base.specs.declared.token.Sign.TheVariants.{RightBrace}
use Rattle.polis_base.specs.declared.token.Kind.{Kind}
use Rattle.polis_base.specs.declared.token.Kind.TheVariants as kinds
use Rattle.net_reader.specs.Kinds.{class_of}
use Rattle.net_reader.specs.Lexemes.{Lexeme, lexemes}
use Rattle.net_reader.specs.Grammar.{OneAnd, IsMachine, IsNet}
use Rattle.net_reader.specs.Reading.{Answer, begins}
use Rattle.net_reader.specs.Sentences.{BreaksAt, LacksLast, OrNoMemory}
use Rattle.net_reader.specs.inner.Outcomes.{outcome}
use Rattle.net_reader.specs.declared.raw.RawMachine.{RawMachine}
use Rattle.net_reader.specs.declared.raw.RawNet.{RawNet}
use Rattle.net_reader.specs.declared.network.NetFault.{NetFault}
use Rattle.net_reader.specs.declared.network.NetFault.TheVariants as faults
use Rattle.net_reader.proofs.NetworkLaws.{net_laws, net_goes}
use Rattle.net_reader.proofs.Sentences.{net_sentence, syntax_there_clause}

-- the last token is a right brace
abbrev pub Ends : List Lexeme → Type 0
Ends ts =
    (before : List Lexeme) × (l : Lexeme) × (ts ≡ before ++ l ∷ [])
    × (l.kind ≡ kinds.Sign RightBrace)

after : (ts x y : List Lexeme) → ts ≡ x ++ y → Ends y → Ends ts
after ts x y e h =
    (x ++ h.0, h.1, e ∙ ap (λ m. x ++ m) h.2 ∙ sym (append_assoc x h.0 (h.1 ∷ [])), h.3)

alone : (ts x y : List Lexeme) → ts ≡ x ++ y → y ≡ [] → Ends x → Ends ts
alone ts x y e none h = (h.0, h.1, e ∙ ap (λ m. x ++ m) none ∙ append-nil x ∙ h.2, h.3)

machine_ends : (version : ℕ) (m : RawMachine) (ts : List Lexeme) → IsMachine version m ts → Ends ts
machine_ends version m ts f =
    let f1 = f.4 in
    let f2 = f1.4 in
    let f3 = f2.4 in
    let f4 = f3.4 in
    let f5 = f4.4 in
    let f6 = f5.4 in
    let f7 = f6.4 in
    let f8 = f7.4 in
    let f9 = f8.4 in
    let brace = f9.4 in
    let here : Ends f9.1 = ([], brace.0, brace.1, brace.2) in
    after ts f.0 f.1 f.2 (after f.1 f1.0 f1.1 f1.2
    (after f1.1 f2.0 f2.1 f2.2 (after f2.1 f3.0 f3.1 f3.2
    (after f3.1 f4.0 f4.1 f4.2 (after f4.1 f5.0 f5.1 f5.2
    (after f5.1 f6.0 f6.1 f6.2 (after f6.1 f7.0 f7.1 f7.2
    (after f7.1 f8.0 f8.1 f8.2 (after f8.1 f9.0 f9.1 f9.2 here)))))))))

machines_end : (version : ℕ) (machines : List RawMachine) (ts : List Lexeme)
    → OneAnd (IsMachine version) (IsMachine version) machines ts → Ends ts
machines_end version [] ts f = absurd f
machines_end version (m ∷ []) ts f = alone ts f.0 f.1 f.2 f.4 (machine_ends version m f.0 f.3)
machines_end version (m ∷ n ∷ others) ts f =
    after ts f.0 f.1 f.2 (machines_end version (n ∷ others) f.1 f.4)

pub net_ends : (net : RawNet) (ts : List Lexeme) → IsNet net ts → Ends ts
net_ends net ts f =
    let f1 = f.4 in
    let f2 = f1.4 in
    let f3 = f2.4 in
    let f4 = f3.4 in
    let f5 = f4.4 in
    after ts f.0 f.1 f.2 (after f.1 f1.0 f1.1 f1.2
    (after f1.1 f2.0 f2.1 f2.2 (after f2.1 f3.0 f3.1 f3.2
    (after f3.1 f4.0 f4.1 f4.2 (after f4.1 f5.0 f5.1 f5.2
    (machines_end net.version.number net.machines f5.1 f5.4))))))

last_same : (xs ys : List Lexeme) (l m : Lexeme) → xs ++ l ∷ [] ≡ ys ++ m ∷ [] → l ≡ m
last_same [] [] l m e = cc
last_same [] (y ∷ []) l m e = absurd cc
last_same [] (y ∷ z ∷ ys) l m e = absurd cc
last_same (x ∷ []) [] l m e = absurd cc
last_same (x ∷ z ∷ xs) [] l m e = absurd cc
last_same (x ∷ xs) (y ∷ ys) l m e =
    let tails : xs ++ l ∷ [] ≡ ys ++ m ∷ [] = cc in last_same xs ys l m tails

pub last_brace : (net : RawNet) (ts : List Lexeme) (l : Lexeme) → IsNet net (ts ++ l ∷ [])
    → l.kind ≡ kinds.Sign RightBrace
last_brace net ts l f =
    let h = net_ends net (ts ++ l ∷ []) f in ap (λ (m : Lexeme). m.kind)
    (last_same ts h.0 l h.1 h.2)
    ∙ h.3

same_ok : {A : Type 0} (x y : A × List Lexeme) → ◌≡◌ {A = Answer A} (Ok x) (Ok y) → x ≡ y
same_ok x y h = cc

-- after a sentence no token makes another one
not_both : (ts : List Lexeme) (l : Lexeme) (net other : RawNet) → IsNet net (ts ++ l ∷ [])
    → IsNet other ts → ⊥
not_both ts l net other f g =
    let calm : begins net_goes (l ∷ [])
    ≡ false = ap (λ (k : Kind). net_goes (class_of k)) (last_brace net ts l f) in
    let both : ◌≡◌ {A = RawNet × List Lexeme} (net, []) (other, l ∷ []) = same_ok (net, [])
    (other, l ∷ []) (sym (net_sentence (ts ++ l ∷ []) net f)
    ∙ net_laws.complete ts (l ∷ []) other g calm) in
    let ends : ◌≡◌ {A = List Lexeme} [] (l ∷ []) = ap (λ (z : RawNet × List Lexeme). z.1) both in
    absurd cc

breaks_at_end : (text : List ℕ) → LacksLast text → BreaksAt text (length text)
breaks_at_end text h = record {
  tokens = h.tokens;
  read = h.read;
  before = lexemes text h.tokens;
  rest = [];
  split = sym (append-nil (lexemes text h.tokens));
  begins = (h.last ∷ [], h.net, h.sentence);
  stops = λ other g. not_both (lexemes text h.tokens) h.last h.net other h.sentence g;
  here = refl;
}

pub last_missing_clause : (text : List ℕ) (r : Result RawNet NetFault) → OrNoMemory r (outcome text)
    → LacksLast text → OrNoMemory r (Err (faults.Syntax (length text)))
last_missing_clause text r s h = syntax_there_clause text r s (length text) (breaks_at_end text h)
