-- The laws of one token, of lists, and of sets of kinds.
use Rattle.std.proofs.Common.{◌≡◌, ℕ, zero, suc, ◌<◌, Bool, true, false, cond, not, ◌&&◌, ◌||◌, ◌==◌, List, [], ◌∷◌, ◌++◌, get_or, Option, Some, None, codes, refl, sym, ◌∙◌, ap, subst, arith, ◌⊎◌, inl, inr, ⊎_elim, append-nil}
use Rattle.std.proofs.lemmas.Bool.{eqb-true, eq-eqb}
use Rattle.polis_base.specs.declared.token.Keyword.TheVariants.{KwNetwork, KwVersion, KwDomain, KwEvent, KwMachine, KwFrom, KwTo, KwEnv, KwPriority, KwInput, KwOutput, KwState, KwWhen, KwDo, KwEmit, KwAbsent, KwIn, KwNothing, KwSettle, KwValue}
use Rattle.polis_base.specs.declared.token.Sign.TheVariants.{Equal, Assign, Colon, Comma, LeftBrace, RightBrace, DotDot, Plus}
use Rattle.polis_base.specs.declared.token.Kind.{Kind}
use Rattle.polis_base.specs.declared.token.Kind.TheVariants.{Keyword, Name, Number, Sign}
use Rattle.net_reader.specs.Kinds.{class_of}
use Rattle.net_reader.specs.Lexemes.{Lexeme, word_as, word_of, num_as, num_of, value_as, value_of}
use Rattle.net_reader.specs.Grammar.{Part, ◌⨾◌, Only, Sign as Mark, IsWord, IsNum, IsValue, Says, Optional, Each, OneAnd, Listed}
use Rattle.net_reader.specs.Reading.{Rule, is, is_fixed, of_kind, only, word_at, num_at, value_at, more, some, after_comma, listed}
use Rattle.net_reader.specs.declared.raw.Word.{Word}
use Rattle.net_reader.specs.declared.raw.Num.{Num}
use Rattle.net_reader.specs.declared.raw.RawValue.{RawValue}
use Rattle.net_reader.specs.declared.raw.RawValue.TheVariants as values
use Rattle.net_reader.proofs.Laws.{Laws, none, Apart, Within, Bind, bind, bind_laws}
use Rattle.net_reader.proofs.Combinators.{Just, Or, same_laws, one_laws, pure_laws, many_laws}

-- sets of kinds

abbrev pub all_below : ℕ → (ℕ → Bool) → Bool
all_below zero f = true
all_below (suc n) f = f n && all_below n f

and_true : (a b : Bool) → (a && b) ≡ true → (a ≡ true) × (b ≡ true)
and_true true b h = (refl, h)
and_true false b h = absurd cc

at_or_below : (c n : ℕ) → c < suc n → (c ≡ n) ⊎ (c < n)
at_or_below zero zero h = inl refl
at_or_below zero (suc n) h = inr (omega arith)
at_or_below (suc c) zero h = absurd (omega arith)
at_or_below (suc c) (suc n) h = ⊎_elim (λ (e : c ≡ n). inl (ap suc e))
    (λ (k : c < n). inr (omega arith)) (at_or_below c n (omega arith))

below_case : (n c : ℕ) (f : ℕ → Bool) → f n ≡ true → (c < n → f c ≡ true) → (c ≡ n) ⊎ (c < n)
    → f c ≡ true
below_case n c f here less (inl e) = ap f e ∙ here
below_case n c f here less (inr e) = less e

below_at : (n c : ℕ) (f : ℕ → Bool) → all_below n f ≡ true → c < n → f c ≡ true
below_at zero c f h k = absurd (omega arith)
below_at (suc n) c f h k = below_case n c f (and_true (f n) (all_below n f) h).0
    (λ less. below_at n c f (and_true (f n) (all_below n f) h).1 less) (at_or_below c n k)

class_below : (k : Kind) → class_of k < 30
class_below Name = omega arith
class_below (Number n) = omega arith
class_below (Sign Equal) = omega arith
class_below (Sign Assign) = omega arith
class_below (Sign Colon) = omega arith
class_below (Sign Comma) = omega arith
class_below (Sign LeftBrace) = omega arith
class_below (Sign RightBrace) = omega arith
class_below (Sign DotDot) = omega arith
class_below (Sign Plus) = omega arith
class_below (Keyword KwNetwork) = omega arith
class_below (Keyword KwVersion) = omega arith
class_below (Keyword KwDomain) = omega arith
class_below (Keyword KwEvent) = omega arith
class_below (Keyword KwMachine) = omega arith
class_below (Keyword KwFrom) = omega arith
class_below (Keyword KwTo) = omega arith
class_below (Keyword KwEnv) = omega arith
class_below (Keyword KwPriority) = omega arith
class_below (Keyword KwInput) = omega arith
class_below (Keyword KwOutput) = omega arith
class_below (Keyword KwState) = omega arith
class_below (Keyword KwWhen) = omega arith
class_below (Keyword KwDo) = omega arith
class_below (Keyword KwEmit) = omega arith
class_below (Keyword KwAbsent) = omega arith
class_below (Keyword KwIn) = omega arith
class_below (Keyword KwNothing) = omega arith
class_below (Keyword KwSettle) = omega arith
class_below (Keyword KwValue) = omega arith

told : (b t : Bool) → cond b (not t) true ≡ true → b ≡ true → t ≡ false
told true false h k = refl
told true true h k = absurd cc
told false t h k = absurd cc

told_too : (b t : Bool) → cond b t true ≡ true → b ≡ true → t ≡ true
told_too true t h k = h
told_too false t h k = absurd cc

pub apart : (s t : ℕ → Bool) → all_below 30 (λ c. cond (s c) (not (t c)) true) ≡ true → Apart s t
apart s t h = record {
  off = λ k. told (s (class_of k)) (t (class_of k))
      (below_at 30 (class_of k) (λ c. cond (s c) (not (t c)) true) h (class_below k));
}

pub within : (s t : ℕ → Bool) → all_below 30 (λ c. cond (s c) (t c) true) ≡ true → Within s t
within s t h = record {
  on = λ k. told_too (s (class_of k)) (t (class_of k))
      (below_at 30 (class_of k) (λ c. cond (s c) (t c) true) h (class_below k));
}

-- a kind is known by its number, where it says all of its token

abbrev kind_table : List Kind
kind_table =
    Name ∷ Name ∷ Sign Equal ∷ Sign Assign ∷ Sign Colon ∷ Sign Comma ∷ Sign LeftBrace
    ∷ Sign RightBrace ∷ Sign DotDot ∷ Sign Plus
    ∷ Keyword KwNetwork ∷ Keyword KwVersion ∷ Keyword KwDomain ∷ Keyword KwEvent ∷ Keyword KwMachine
    ∷ Keyword KwFrom ∷ Keyword KwTo ∷ Keyword KwEnv
    ∷ Keyword KwPriority ∷ Keyword KwInput ∷ Keyword KwOutput ∷ Keyword KwState ∷ Keyword KwWhen
    ∷ Keyword KwDo ∷ Keyword KwEmit ∷ Keyword KwAbsent
    ∷ Keyword KwIn ∷ Keyword KwNothing ∷ Keyword KwSettle ∷ Keyword KwValue ∷ []

fixed_known : (k : Kind) → is_fixed k ≡ true → get_or kind_table (class_of k) Name ≡ k
fixed_known Name h = refl
fixed_known (Number n) h = absurd cc
fixed_known (Sign Equal) h = refl
fixed_known (Sign Assign) h = refl
fixed_known (Sign Colon) h = refl
fixed_known (Sign Comma) h = refl
fixed_known (Sign LeftBrace) h = refl
fixed_known (Sign RightBrace) h = refl
fixed_known (Sign DotDot) h = refl
fixed_known (Sign Plus) h = refl
fixed_known (Keyword KwNetwork) h = refl
fixed_known (Keyword KwVersion) h = refl
fixed_known (Keyword KwDomain) h = refl
fixed_known (Keyword KwEvent) h = refl
fixed_known (Keyword KwMachine) h = refl
fixed_known (Keyword KwFrom) h = refl
fixed_known (Keyword KwTo) h = refl
fixed_known (Keyword KwEnv) h = refl
fixed_known (Keyword KwPriority) h = refl
fixed_known (Keyword KwInput) h = refl
fixed_known (Keyword KwOutput) h = refl
fixed_known (Keyword KwState) h = refl
fixed_known (Keyword KwWhen) h = refl
fixed_known (Keyword KwDo) h = refl
fixed_known (Keyword KwEmit) h = refl
fixed_known (Keyword KwAbsent) h = refl
fixed_known (Keyword KwIn) h = refl
fixed_known (Keyword KwNothing) h = refl
fixed_known (Keyword KwSettle) h = refl
fixed_known (Keyword KwValue) h = refl

pub fixed_or_number : (k : Kind) → (is_fixed k ≡ true) ⊎ (class_of k ≡ 1)
fixed_or_number Name = inl refl
fixed_or_number (Number n) = inr refl
fixed_or_number (Sign s) = inl refl
fixed_or_number (Keyword k) = inl refl

pub kind_same : (a b : Kind) → is_fixed b ≡ true → class_of a ≡ class_of b
    → (is_fixed a ≡ true) ⊎ (class_of a ≡ 1) → a ≡ b
kind_same a b h e (inl g) =
    sym (fixed_known a g) ∙ ap (λ n. get_or kind_table n Name) e ∙ fixed_known b h
kind_same a b h e (inr g) =
    let n : Name ≡ b = ap (λ n. get_or kind_table n Name) (sym g ∙ e) ∙ fixed_known b h in
    absurd (omega (arith, ap class_of n, g, e))

abbrev so : Bool → Option (Unit {0})
so b = cond b (Some tt) None

test_true : (b : Bool) (u : Unit {0}) → so b ≡ Some u → b ≡ true
test_true true u h = refl
test_true false u h = absurd cc

only_there : (kind : Kind) → is_fixed kind ≡ true → (u : Unit {0}) (ts : List Lexeme)
    → Says (of_kind kind) u ts → Only kind ts
only_there kind fixed u ts f =
    let l = f.0 in (
      l,
      f.1,
      kind_same l.kind kind fixed
          (eqb-true (class_of l.kind) (class_of kind) (test_true (is kind (class_of l.kind)) u f.2))
          (fixed_or_number l.kind),
    )

same_num : (n : ℕ) → (n == n) ≡ true
same_num n = eq-eqb n n refl

only_back : (kind : Kind) → (u : Unit {0}) (ts : List Lexeme) → Only kind ts
    → Says (of_kind kind) u ts
only_back kind u ts f =
    let e : is kind (class_of f.0.kind) ≡ true = ap (λ (k : Kind). class_of k == class_of kind) f.2
    ∙ same_num (class_of kind) in
    (f.0, f.1, ap so e)

of_kind_tells : (kind : Kind) (l : Lexeme) (u : Unit {0}) → of_kind kind l ≡ Some u
    → is kind (class_of l.kind) ≡ true
of_kind_tells kind l u h = test_true (is kind (class_of l.kind)) u h

pub only_laws : (kind : Kind) → is_fixed kind ≡ true
    → Laws (only kind) (λ _. Only kind) (is kind) none false
unfolding only
only_laws kind fixed = same_laws (only_there kind fixed) (only_back kind)
    (one_laws (of_kind kind) (is kind) (of_kind_tells kind)
    (record { kind = kind; bytes = []; at = 0 }) tt (ap so (same_num (class_of kind))))

-- names, numbers and values

word_tells : (k : Kind) (w a : Word) → word_as k w ≡ Some a → is Name (class_of k) ≡ true
word_tells Name w a h = refl
word_tells (Number n) w a h = absurd cc
word_tells (Keyword k) w a h = absurd cc
word_tells (Sign s) w a h = absurd cc

abbrev sample_word : Word
sample_word = record { name = codes "x"; at = 0 }

abbrev sample_name : Lexeme
sample_name = record { kind = Name; bytes = codes "x"; at = 0 }

pub word_laws : Laws word_at IsWord (is Name) none false
unfolding word_at
word_laws = one_laws word_of (is Name)
    (λ l a. word_tells l.kind (record { name = l.bytes; at = l.at }) a) sample_name sample_word refl

num_tells : (k : Kind) (at : ℕ) (a : Num) → num_as k at ≡ Some a → is (Number 0) (class_of k) ≡ true
num_tells Name at a h = absurd cc
num_tells (Number n) at a h = refl
num_tells (Keyword k) at a h = absurd cc
num_tells (Sign s) at a h = absurd cc

pub num_laws : Laws num_at IsNum (is (Number 0)) none false
unfolding num_at
num_laws = one_laws num_of (is (Number 0)) (λ l a. num_tells l.kind l.at a)
    (record { kind = Number 1; bytes = codes "1"; at = 0 }) (record { number = 1; at = 0 }) refl

value_tells : (k : Kind) (w : Word) (a : RawValue) → value_as k w ≡ Some a
    → (is Name (class_of k) || is (Number 0) (class_of k)) ≡ true
value_tells Name w a h = refl
value_tells (Number n) w a h = refl
value_tells (Keyword k) w a h = absurd cc
value_tells (Sign s) w a h = absurd cc

pub value_laws : Laws value_at IsValue (λ c. is Name c || is (Number 0) c) none false
unfolding value_at
value_laws = one_laws value_of (λ c. is Name c || is (Number 0) c)
    (λ l a. value_tells l.kind (record { name = l.bytes; at = l.at }) a) sample_name
    (values.Name sample_word) refl

-- a value that is a name

name_value : (k : Kind) (w v : Word) → word_as k w ≡ Some v → value_as k w ≡ Some (values.Name v)
name_value Name w v h = let e : w ≡ v = cc in ap (λ (z : Word). Some (values.Name z)) e
name_value (Number n) w v h = absurd cc
name_value (Keyword k) w v h = absurd cc
name_value (Sign s) w v h = absurd cc

value_name : (k : Kind) (w v : Word) → value_as k w ≡ Some (values.Name v) → word_as k w ≡ Some v
value_name Name w v h = let e : w ≡ v = cc in ap (λ (z : Word). Some z) e
value_name (Number n) w v h = absurd cc
value_name (Keyword k) w v h = absurd cc
value_name (Sign s) w v h = absurd cc

pub word_is_value : (w : Word) (ts : List Lexeme) → IsWord w ts → IsValue (values.Name w) ts
word_is_value w ts f =
    (f.0, f.1, name_value f.0.kind (record { name = f.0.bytes; at = f.0.at }) w f.2)

pub value_is_word : (w : Word) (ts : List Lexeme) → IsValue (values.Name w) ts → IsWord w ts
value_is_word w ts f =
    (f.0, f.1, value_name f.0.kind (record { name = f.0.bytes; at = f.0.at }) w f.2)

-- optional parts and lists

pub optional_there : {A : Type 0} (P : A → Part) (o : Option A) (ts : List Lexeme)
    → Or (λ e ts. (a : A) × (e ≡ Some a) × P a ts) (Just None) o ts → Optional P o ts
optional_there P o ts (inl f) = subst (λ (z : Option _). Optional P z ts) (sym f.1) f.2
optional_there P o ts (inr f) = subst (λ (z : Option _). Optional P z ts) (sym f.0) f.1

pub optional_back : {A : Type 0} (P : A → Part) (o : Option A) (ts : List Lexeme) → Optional P o ts
    → Or (λ e ts. (a : A) × (e ≡ Some a) × P a ts) (Just None) o ts
optional_back P None ts f = inr (refl, f)
optional_back P (Some a) ts f = inl (a, refl, f)

abbrev pub one_goes : (ℕ → Bool) → (ℕ → Bool) → ℕ → Bool
one_goes test g c = (g c || test c) || g c

one_and_there : {A : Type 0} (P Q : A → Part) (e : List A) (ts : List Lexeme)
    → Bind P (λ a. Bind (Each Q) (λ others. Just (a ∷ others))) e ts → OneAnd P Q e ts
one_and_there P Q e ts f =
    let g = f.5 in
    let all : Each Q g.2 f.1 = subst (λ (m : List Lexeme). Each Q g.2 m)
    (sym (g.3 ∙ ap (λ m. g.0 ++ m) g.5.1 ∙ append-nil g.0)) g.4 in
    subst (λ (z : List _). OneAnd P Q z ts) (sym g.5.0) (f.0, f.1, f.3, f.4, all)

one_and_back : {A : Type 0} (P Q : A → Part) (e : List A) (ts : List Lexeme) → OneAnd P Q e ts
    → Bind P (λ a. Bind (Each Q) (λ others. Just (a ∷ others))) e ts
one_and_back P Q [] ts f = absurd f
one_and_back P Q (a ∷ others) ts f =
    (f.0, f.1, a, f.2, f.3, (f.1, [], others, sym (append-nil f.1), f.4, (refl, refl)))

or_off : (b : Bool) → (b || false) ≡ true → b ≡ true
or_off true h = refl
or_off false h = absurd cc

one_and_laws : {A : Type 0} {p q : Rule A} {P Q : A → Part} {s g sq : ℕ → Bool} (test : ℕ → Bool)
    → Laws p P s g false → Laws q Q sq g false → Within sq test → Apart sq g
    → Laws (λ ls. bind p (more test q) ls) (OneAnd P Q) s (one_goes test g) false
one_and_laws {P = P} {Q = Q} {sq = sq} test lp lq inside out =
    same_laws (one_and_there P Q) (one_and_back P Q)
    (bind_laws lp (λ a. bind_laws (many_laws test lq inside out) (λ others. pure_laws (a ∷ others))
    (record { off = λ k h. absurd cc }))
    (record { off = λ k h. out.off k (or_off (sq (class_of k)) h) }))

pub some_laws : {A : Type 0} {p : Rule A} {P : A → Part} {s g : ℕ → Bool} (test : ℕ → Bool)
    → Laws p P s g false → Within s test → Apart s g
    → Laws (some test p) (OneAnd P P) s (one_goes test g) false
some_laws test laws inside out = one_and_laws test laws laws inside out

abbrev pub listed_goes : (ℕ → Bool) → ℕ → Bool
listed_goes g = one_goes (is (Sign Comma)) g

comma_laws : {A : Type 0} {p : Rule A} {P : A → Part} {s g : ℕ → Bool} → Laws p P s g false
    → Laws (after_comma p) (λ a. Mark Comma ⨾ P a) (is (Sign Comma)) g false
unfolding after_comma
comma_laws laws = same_laws (λ e ts f. (f.0, f.1, f.3, f.4, f.5))
    (λ e ts f. (f.0, f.1, tt, f.2, f.3, f.4))
    (bind_laws (only_laws (Sign Comma) refl) (λ _. laws) (record { off = λ k h. refl }))

pub listed_laws : {A : Type 0} {p : Rule A} {P : A → Part} {s g : ℕ → Bool} → Laws p P s g false
    → Apart (is (Sign Comma)) g → Laws (listed p) (Listed P) s (listed_goes g) false
unfolding listed
listed_laws laws out =
    one_and_laws (is (Sign Comma)) laws (comma_laws laws) (record { on = λ k h. h }) out
