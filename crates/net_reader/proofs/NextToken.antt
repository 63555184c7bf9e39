-- Steps of the reader.
use Rattle.std.proofs.Common.{◌≡◌, ℕ, ◌<◌, Bool, true, false, cond, IsTrue, List, [], ◌∷◌, length, drop, Option, Some, None, IfSome, IfNone, Ok, Err, refl, sym, ap, arith}
use Rattle.std.proofs.lemmas.Bool.{eqb-true, eq-eqb, false≢true}
use Rattle.polis_base.specs.Lists.{head_of}
use Rattle.polis_base.specs.Tokens.{marked_after}
use Rattle.polis_base.specs.Spans.{IsNext}
use Rattle.polis_base.specs.declared.token.Token.{Token}
use Rattle.polis_base.specs.declared.token.Kind.{Kind}
use Rattle.net_reader.specs.Kinds.{class_of}
use Rattle.net_reader.specs.Lexemes.{Lexeme}
use Rattle.net_reader.specs.Pieces.{left, StandsAt}
use Rattle.net_reader.specs.Reading.{taken, one, next_of, is, is_fixed, begins, only, end_at}
use Rattle.net_reader.proofs.Tokens.{kind_same, fixed_or_number}

pub next_none : {A : Type 0} (f : Lexeme → Option A) (ls : List Lexeme) → next_of f ls ≡ None
    → one f ls ≡ Err ls
next_none f [] h = refl
next_none f (l ∷ ls) h = ap (λ (o : Option _). taken o l ls) h

pub next_some : {A : Type 0} (f : Lexeme → Option A) (ls : List Lexeme) (a : A)
    → next_of f ls ≡ Some a → one f ls ≡ Ok (a, drop 1 ls)
next_some f [] a h = absurd cc
next_some f (l ∷ ls) a h = ap (λ (o : Option _). taken o l ls) h

pub next_long : {A : Type 0} (f : Lexeme → Option A) (ls : List Lexeme) (a : A)
    → next_of f ls ≡ Some a → 0 < length ls
next_long f [] a h = absurd cc
next_long f (l ∷ ls) a h = omega arith

pub begins_long : (t : ℕ → Bool) (ls : List Lexeme) → begins t ls ≡ true → 0 < length ls
begins_long t [] h = absurd cc
begins_long t (l ∷ ls) h = omega arith

pub only_no : (kind : Kind) (ls : List Lexeme) → begins (is kind) ls ≡ false → only kind ls ≡ Err ls
unfolding only
only_no kind [] h = refl
only_no kind (l ∷ ls) h = ap (λ (b : Bool). taken (cond b (Some tt) None) l ls) h

pub only_yes : (kind : Kind) (ls : List Lexeme) → begins (is kind) ls ≡ true
    → only kind ls ≡ Ok (tt, drop 1 ls)
unfolding only
only_yes kind [] h = absurd cc
only_yes kind (l ∷ ls) h = ap (λ (b : Bool). taken (cond b (Some tt) None) l ls) h

pub head_next : {A : Type 0} (f : Lexeme → Option A) (ls : List Lexeme) (l : Lexeme)
    → Some l ≡ head_of ls → f l ≡ next_of f ls
head_next f [] l h = absurd cc
head_next f (m ∷ ls) l h = let e : l ≡ m = cc in ap f e

pub no_next : {A : Type 0} (f : Lexeme → Option A) (ls : List Lexeme) → None ≡ head_of ls
    → None ≡ next_of f ls
no_next f [] h = refl
no_next f (m ∷ ls) h = absurd cc

pub head_begins : (t : ℕ → Bool) (ls : List Lexeme) (l : Lexeme) → Some l ≡ head_of ls
    → t (class_of l.kind) ≡ begins t ls
head_begins t [] l h = absurd cc
head_begins t (m ∷ ls) l h = let e : l ≡ m = cc in ap (λ (x : Lexeme). t (class_of x.kind)) e

pub no_begins : (t : ℕ → Bool) (ls : List Lexeme) → None ≡ head_of ls → false ≡ begins t ls
no_begins t [] h = refl
no_begins t (m ∷ ls) h = absurd cc

pub end_yes : (ls : List Lexeme) → None ≡ head_of ls → end_at ls ≡ Ok (tt, ls)
unfolding end_at
end_yes [] h = refl
end_yes (l ∷ ls) h = absurd cc

pub end_no : (ls : List Lexeme) (l : Lexeme) → Some l ≡ head_of ls → end_at ls ≡ Err ls
unfolding end_at
end_no [] l h = absurd cc
end_no (m ∷ ls) l h = refl

-- what is left after the next token is found is what stands from there on
pub left_after : (text : List ℕ) (from : ℕ) (next : Option Token)
    → IfSome next (λ token. IsNext text from token) → IfNone next (marked_after text from ≡ [])
    → left text next ≡ marked_after text from
left_after text from None some none = sym none
left_after text from (Some token) some none = sym some.first

pub stands_after : (text : List ℕ) (from : ℕ) (next : Option Token)
    → IfSome next (λ token. IsNext text from token) → StandsAt text next
stands_after text from None some = tt
stands_after text from (Some token) some = (some.within, some.name)

pub tested : (r : Bool) (a b : Kind) → is_fixed b ≡ true → (IsTrue r → a ≡ b) → (a ≡ b → IsTrue r)
    → r ≡ is b (class_of a)
tested true a b fixed there back = sym (eq-eqb (class_of a) (class_of b) (ap class_of (there refl)))
tested false a b fixed there back = none (is b (class_of a)) refl
  where
    none : (t : Bool) → is b (class_of a) ≡ t → false ≡ t
    none false e = refl
    none true e = absurd
        (false≢true (back
        (kind_same a b fixed (eqb-true (class_of a) (class_of b) e) (fixed_or_number a))))
