-- Loops over the parts of a list.
use Rattle.std.proofs.Common.{◌≡◌, ℕ, ◌<◌, Bool, true, false, List, [], ◌∷◌, ◌++◌, length, drop, Ok, Err, refl, sym, ◌∙◌, ap, append_assoc, append-nil, arith}
use Rattle.net_reader.specs.Lexemes.{Lexeme}
use Rattle.net_reader.specs.Reading.{Answer, Rule, Gives, Adds, Shrinks, ◌>>=◌, is, begins, many, more, listed, with_before, with_one, after_comma, only}
use Rattle.net_reader.specs.declared.reader.Stop.{Stop}
use Rattle.net_reader.specs.declared.reader.Stop.TheVariants as stops
use Rattle.polis_base.specs.declared.token.Kind.TheVariants as kinds
use Rattle.polis_base.specs.declared.token.Sign.TheVariants.{Comma}
use Rattle.net_reader.proofs.Laws.{bind_ok}
use Rattle.net_reader.proofs.NextToken.{only_yes}
use Rattle.net_reader.proofs.Tokens.{only_laws}
use Rattle.net_reader.proofs.Combinators.{many_none, many_some, many_err, shrinks}

-- what a part added, by what the list is after it
abbrev pub HasAdded : {A : Type 0} → List A → List A → Answer A → List Lexeme → Type 0
HasAdded {A} made now answer rest = (a : A) × (answer ≡ Ok (a, rest)) × (now ≡ made ++ a ∷ [])

pub added : {A : Type 0} (made now : List A) (r : Answer A) (rest : List Lexeme)
    → with_one made r ≡ Ok (now, rest) → HasAdded made now r rest
added {A = A} made now (Ok x) rest h =
    let e : ◌≡◌ {A = List A × List Lexeme} (made ++ x.0 ∷ [], x.1) (now, rest) = cc in (
      x.0,
      ap (λ (y : List A × List Lexeme). Ok (x.0, y.1)) e,
      sym (ap (λ (y : List A × List Lexeme). y.0) e),
    )
added made now (Err e) rest h = absurd cc

pub not_added : {A : Type 0} (made now : List A) (r : Answer A) (rest : List Lexeme) (stop : Stop)
    → Adds (Err stop) rest now (with_one made r) → Gives {A = A} (Err stop) rest r
not_added made now (Ok x) rest stops.Fault h = absurd cc
not_added made now (Err e) rest stops.Fault h =
    let same : e ≡ rest = cc in
    ap (λ (ls : List Lexeme). Err ls) same
not_added made now r rest stops.NoMemory h = tt

regroup : {A : Type 0} (made : List A) (a : A) (r : Answer (List A))
    → with_before (made ++ a ∷ []) r ≡ with_before made (r >>= λ y. Ok (a ∷ y.0, y.1))
regroup made a (Ok y) = ap (λ (m : List _). Ok (m, y.1)) (append_assoc made (a ∷ []) y.0)
regroup made a (Err e) = refl

pub goes_on : {A : Type 0} (test : ℕ → Bool) (p : Rule A) → Shrinks p
    → (made : List A) (ls rest : List Lexeme) (a : A) → begins test ls ≡ true → p ls ≡ Ok (a, rest)
    → with_before (made ++ a ∷ []) (many test p rest) ≡ with_before made (many test p ls)
goes_on test p shrinks made ls rest a t e =
    regroup made a (many test p rest) ∙ ap (with_before made)
    (sym (many_some test p shrinks ls rest a t e))

pub ends : {A : Type 0} (test : ℕ → Bool) (p : Rule A) (made : List A) (ls : List Lexeme)
    → begins test ls ≡ false → with_before made (many test p ls) ≡ Ok (made, ls)
ends test p made ls t = ap (with_before made) (many_none test p ls t)
    ∙ ap (λ (m : List _). Ok (m, ls)) (append-nil made)

-- a part that didn't read stops the list
pub stops_list : {A : Type 0} (test : ℕ → Bool) (p : Rule A) (made : List A) (ls rest : List Lexeme)
    (stop : Stop) (all : Answer (List A)) → begins test ls ≡ true
    → Gives {A = A} (Err stop) rest (p ls) → with_before made (many test p ls) ≡ all
    → Gives {A = List A} (Err stop) rest all
stops_list test p made ls rest stops.Fault all t g e =
    sym e ∙ ap (with_before made) (many_err test p ls rest t g)
stops_list test p made ls rest stops.NoMemory all t g e = tt

-- after a comma less is left too
pub comma_shrinks : {A : Type 0} (p : Rule A) → Shrinks p → Shrinks (after_comma p)
unfolding after_comma
comma_shrinks p less ls rest a h =
    let k = bind_ok (only (kinds.Sign Comma) ls) (λ x. p x.1) (a, rest) h in
    let first = shrinks (only_laws (kinds.Sign Comma) refl) ls k.0.1 k.0.0 k.1 in
    let second = less k.0.1 rest a k.2 in
    omega arith

-- what stands after a comma is a list too
more_listed : {A : Type 0} (p : Rule A) → Shrinks p → (ls : List Lexeme)
    → begins (is (kinds.Sign Comma)) ls ≡ true
    → many (is (kinds.Sign Comma)) (after_comma p) ls ≡ listed p (drop 1 ls)
unfolding listed after_comma
more_listed {A = A} p less ls t = by_case (p (drop 1 ls)) refl
  where
    same : after_comma p ls ≡ p (drop 1 ls)
    same = ap (λ (r : Answer (Unit {0})). r >>= λ x. p x.1) (only_yes (kinds.Sign Comma) ls t)

    by_case : (r : Answer A) → p (drop 1 ls) ≡ r
        → many (is (kinds.Sign Comma)) (after_comma p) ls ≡ listed p (drop 1 ls)
    by_case (Ok x) e =
        many_some (is (kinds.Sign Comma)) (after_comma p) (comma_shrinks p less) ls x.1 x.0 t
        (same ∙ e)
        ∙ ap (λ (r : Answer A). r >>= λ y. more (is (kinds.Sign Comma)) (after_comma p) y.0 y.1)
        (sym e)
    by_case (Err rest) e =
        many_err (is (kinds.Sign Comma)) (after_comma p) ls rest t (same ∙ e)
        ∙ ap (λ (r : Answer A). r >>= λ y. more (is (kinds.Sign Comma)) (after_comma p) y.0 y.1)
        (sym e)

listed_ok : {A : Type 0} (p : Rule A) (ls rest : List Lexeme) (a : A) → p ls ≡ Ok (a, rest)
    → listed p ls ≡ more (is (kinds.Sign Comma)) (after_comma p) a rest
unfolding listed
listed_ok {A = A} p ls rest a e =
    ap (λ (r : Answer A). r >>= λ y. more (is (kinds.Sign Comma)) (after_comma p) y.0 y.1) e

-- a part, and a comma after it
pub listed_on : {A : Type 0} (p : Rule A) → Shrinks p → (made : List A) (ls rest : List Lexeme)
    (a : A) → p ls ≡ Ok (a, rest) → begins (is (kinds.Sign Comma)) rest ≡ true
    → with_before (made ++ a ∷ []) (listed p (drop 1 rest)) ≡ with_before made (listed p ls)
listed_on {A = A} p less made ls rest a e t =
    regroup made a (listed p (drop 1 rest))
    ∙ ap (λ (r : Answer (List A)). with_before made (r >>= λ y. Ok (a ∷ y.0, y.1)))
    (sym (more_listed p less rest t))
    ∙ ap (with_before made) (sym (listed_ok p ls rest a e))

-- the last part
pub listed_ends : {A : Type 0} (p : Rule A) (made : List A) (ls rest : List Lexeme) (a : A)
    → p ls ≡ Ok (a, rest) → begins (is (kinds.Sign Comma)) rest ≡ false
    → with_before made (listed p ls) ≡ Ok (made ++ a ∷ [], rest)
listed_ends {A = A} p made ls rest a e t =
    ap (with_before made) (listed_ok p ls rest a e
    ∙ ap (λ (r : Answer (List A)). r >>= λ y. Ok (a ∷ y.0, y.1))
    (many_none (is (kinds.Sign Comma)) (after_comma p) rest t))

-- a part that didn't read
pub listed_stops : {A : Type 0} (p : Rule A) (made : List A) (ls rest : List Lexeme) (stop : Stop)
    (all : Answer (List A)) → Gives {A = A} (Err stop) rest (p ls)
    → with_before made (listed p ls) ≡ all → Gives {A = List A} (Err stop) rest all
unfolding listed
listed_stops {A = A} p made ls rest stops.Fault all g e =
    sym e ∙ ap (λ (r : Answer A). with_before made
    (r >>= λ y. more (is (kinds.Sign Comma)) (after_comma p) y.0 y.1)) g
listed_stops p made ls rest stops.NoMemory all g e = tt

pub listed_shrinks : {A : Type 0} (p : Rule A) → Shrinks p → (ls rest : List Lexeme) (a : A)
    → p ls ≡ Ok (a, rest) → begins (is (kinds.Sign Comma)) rest ≡ true
    → length (drop 1 rest) < length ls
listed_shrinks p less ls [] a e t = absurd cc
listed_shrinks p less ls (l ∷ rest) a e t =
    let first = less ls (l ∷ rest) a e in
    omega arith
