-- What rules that are read one after another take, against a part of the grammar that has the same
-- parts one after another and no values of theirs.
use Rattle.std.proofs.Common.{◌≡◌, List, [], ◌++◌, refl, sym, ap, ◌∙◌, subst, append-nil}
use Rattle.net_reader.specs.Lexemes.{Lexeme}
use Rattle.net_reader.specs.Grammar.{Part, ◌⨾◌}

-- tokens of P of some value, and then tokens of Q of this value
abbrev pub Both : {A : Type 0} → (A → Part) → (A → Part) → Part
Both {A} P Q ts = (x y : List Lexeme) × (a : A) × (ts ≡ x ++ y) × P a x × Q a y

-- without the value
pub without_value : {A : Type 0} {P Q : A → Part} {R : Part} {ts : List Lexeme}
    → (f : Both P Q ts) → R f.1 → (P f.2 ⨾ R) ts
without_value f rest = (f.0, f.1, f.3, f.4, rest)

-- with a value
pub with_value : {A : Type 0} {P Q : A → Part} {R : Part} {ts : List Lexeme} → (a : A)
    → (f : (P a ⨾ R) ts) → Q a f.1 → Both P Q ts
with_value a f rest = (f.0, f.1, a, f.2, f.3, rest)

-- the last part, after which a fact of its value comes and no token
pub last_of : {A : Type 0} {P : A → Part} {E : A → Type 0} {ts : List Lexeme}
    → (f : Both P (λ a y. E a × (y ≡ [])) ts) → P f.2 ts
last_of {P = P} f =
    subst (P f.2) (sym (f.3 ∙ ap (λ (m : List Lexeme). f.0 ++ m) f.5.1 ∙ append-nil f.0)) f.4

pub closed : {A : Type 0} {P : A → Part} {E : A → Type 0} {ts : List Lexeme} → (a : A) → P a ts
    → E a → Both P (λ a y. E a × (y ≡ [])) ts
closed {ts = ts} a is fact = (ts, [], a, sym (append-nil ts), is, (fact, refl))
