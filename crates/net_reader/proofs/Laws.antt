-- What reading by a rule has to do with a part of the grammar.
use Rattle.std.proofs.Common.{◌≡◌, ℕ, Bool, true, false, cond, ◌||◌, List, [], ◌∷◌, ◌++◌, Ok, Err, refl, sym, ◌∙◌, ap, append_assoc, ◌⊎◌, inl, inr}
use Rattle.polis_base.specs.declared.token.Kind.{Kind}
use Rattle.net_reader.specs.Kinds.{class_of}
use Rattle.net_reader.specs.Lexemes.{Lexeme}
use Rattle.net_reader.specs.Grammar.{Part}
use Rattle.net_reader.specs.Reading.{Answer, Rule, ◌>>=◌, begins}
use Rattle.std.proofs.lemmas.Bool.{or_left, or_parts, or_right}

-- The rule read the value and left the rest: what it used is of the part, and it does the same
-- where the next token is the same.
pub record Took {A : Type 0} (p : Rule A) (P : A → Part) (ls : List Lexeme) (a : A)
    (rest : List Lexeme) : Type 0 where
  pub used : List Lexeme
  pub is : ls ≡ used ++ rest
  pub fits : P a used
  pub same : (l : Lexeme) (tail later : List Lexeme) → rest ≡ l ∷ tail
      → p (used ++ l ∷ later) ≡ Ok (a, l ∷ later)

-- The rule stopped at the rest: the tokens before can be completed, and it stops at the same next
-- token however the list goes on.
pub record Broke {A : Type 0} (p : Rule A) (P : A → Part) (ls rest : List Lexeme) : Type 0 where
  pub before : List Lexeme
  pub is : ls ≡ before ++ rest
  pub fix : List Lexeme
  pub value : A
  pub fits : P value (before ++ fix)
  pub same : (l : Lexeme) (tail later : List Lexeme) → rest ≡ l ∷ tail
      → p (before ++ l ∷ later) ≡ Err (l ∷ later)

-- The rule reads the part. It begins with `starts`, or may be empty; with `goes` it would read on.
pub record Laws {A : Type 0} (p : Rule A) (P : A → Part) (starts goes : ℕ → Bool) (empty : Bool) :
    Type 0 where
  pub reads : (ls rest : List Lexeme) (a : A) → p ls ≡ Ok (a, rest) → Took p P ls a rest
  pub breaks : (ls rest : List Lexeme) → p ls ≡ Err rest → Broke p P ls rest
  pub complete : (used rest : List Lexeme) (a : A) → P a used → begins goes rest ≡ false
      → p (used ++ rest) ≡ Ok (a, rest)
  pub first : (used : List Lexeme) (a : A) → P a used
      → (begins starts used ≡ true) ⊎ ((empty ≡ true) × (used ≡ []))
  pub some : (used : List Lexeme) × (a : A) × P a used

abbrev pub none : ℕ → Bool
none c = false

abbrev pub joined : Bool → (ℕ → Bool) → (ℕ → Bool) → ℕ → Bool
joined false s t = s
joined true s t = λ c. s c || t c

-- no kind of s is one of t
pub record Apart (s t : ℕ → Bool) : Type 0 where
  pub off : (k : Kind) → s (class_of k) ≡ true → t (class_of k) ≡ false

-- each kind of s is one of t
pub record Within (s t : ℕ → Bool) : Type 0 where
  pub on : (k : Kind) → s (class_of k) ≡ true → t (class_of k) ≡ true

pub bind_ok : {A B : Type 0} (r : Answer A) (f : A × List Lexeme → Answer B) (y : B × List Lexeme)
    → (r >>= f) ≡ Ok y → (x : A × List Lexeme) × (r ≡ Ok x) × (f x ≡ Ok y)
bind_ok (Ok x) f y h = (x, refl, h)
bind_ok (Err e) f y h = absurd cc

pub bind_err : {A B : Type 0} (r : Answer A) (f : A × List Lexeme → Answer B) (rest : List Lexeme)
    → (r >>= f) ≡ Err rest
    → (r ≡ Err rest) ⊎ ((x : A × List Lexeme) × (r ≡ Ok x) × (f x ≡ Err rest))
bind_err (Ok x) f rest h = inr (x, refl, h)
bind_err (Err e) f rest h = let same : e ≡ rest = cc in inl (ap Err same)

-- what a rule read, it reads where the tokens after go on otherwise after the next one
pub passed : {A : Type 0} {p : Rule A} {P : A → Part} {ls rest : List Lexeme} {a : A}
    (t : Took p P ls a rest) (u : List Lexeme) (l : Lexeme) (tail later : List Lexeme)
    → rest ≡ u ++ l ∷ tail → p (t.used ++ (u ++ l ∷ later)) ≡ Ok (a, u ++ l ∷ later)
passed t [] l tail later e = t.same l tail later e
passed t (m ∷ u) l tail later e = t.same m (u ++ l ∷ tail) (u ++ l ∷ later) e

-- after what q begins with, or where q is empty, p doesn't read on
pub follows : (sq gp gq : ℕ → Bool) (eq : Bool) (y rest : List Lexeme) → Apart sq gp
    → (begins sq y ≡ true) ⊎ ((eq ≡ true) × (y ≡ [])) → begins (joined eq gq gp) rest ≡ false
    → begins gp (y ++ rest) ≡ false
follows sq gp gq eq (l ∷ y) rest apart (inl h) g = apart.off l.kind h
follows sq gp gq eq [] rest apart (inl h) g = absurd cc
follows sq gp gq false y rest apart (inr h) g = absurd (cc h.0)
follows sq gp gq true y [] apart (inr h) g = ap (λ (m : List Lexeme). begins gp (m ++ [])) h.1
follows sq gp gq true y (l ∷ rest) apart (inr h) g =
    ap (λ (m : List Lexeme). begins gp (m ++ l ∷ rest)) h.1
    ∙ (or_parts (gq (class_of l.kind)) (gp (class_of l.kind)) g).1

pub goes_left : (gp gq : ℕ → Bool) (eq : Bool) (rest : List Lexeme)
    → begins (joined eq gq gp) rest ≡ false → begins gq rest ≡ false
goes_left gp gq false rest g = g
goes_left gp gq true [] g = refl
goes_left gp gq true (l ∷ rest) g = (or_parts (gq (class_of l.kind)) (gp (class_of l.kind)) g).0

-- what a list begins with
pub begins_joined : (s t : ℕ → Bool) (e : Bool) (x y : List Lexeme) → begins s x ≡ true
    → begins (joined e s t) (x ++ y) ≡ true
begins_joined s t e [] y h = absurd cc
begins_joined s t false (l ∷ x) y h = h
begins_joined s t true (l ∷ x) y h = or_left (s (class_of l.kind)) (t (class_of l.kind)) h

pub begins_second : (s t : ℕ → Bool) (y : List Lexeme) → begins t y ≡ true
    → begins (joined true s t) y ≡ true
begins_second s t [] h = h
begins_second s t (l ∷ y) h = or_right (s (class_of l.kind)) (t (class_of l.kind)) h

pub begins_joined_to : (s t : ℕ → Bool) (x y : List Lexeme) → Within s t → begins s x ≡ true
    → begins t (x ++ y) ≡ true
begins_joined_to s t [] y within h = absurd cc
begins_joined_to s t (l ∷ x) y within h = within.on l.kind h

pub begins_same : (t : ℕ → Bool) (u : List Lexeme) (l : Lexeme) (tail later : List Lexeme)
    → begins t (u ++ l ∷ later) ≡ begins t (u ++ l ∷ tail)
begins_same t [] l tail later = refl
begins_same t (m ∷ u) l tail later = refl

abbrev pub bind : {A B : Type 0} → Rule A → (A → Rule B) → Rule B
bind p q ls = p ls >>= λ x. q x.0 x.1

abbrev pub Bind : {A B : Type 0} → (A → Part) → (A → B → Part) → B → Part
Bind {A} P Q b ts = (x y : List Lexeme) × (a : A) × (ts ≡ x ++ y) × P a x × Q a b y

pub step : {A B : Type 0} (r : Answer A) (f : A × List Lexeme → Answer B) (x : A × List Lexeme)
    (z : Answer B)
    → r ≡ Ok x → f x ≡ z → (r >>= f) ≡ z
step r f x z e h = ap (λ (s : Answer _). s >>= f) e ∙ h

bind_reads : {A B : Type 0} {p : Rule A} {P : A → Part} {q : A → Rule B} {Q : A → B → Part}
    {sp gp sq gq : ℕ → Bool} {ep eq : Bool}
    → Laws p P sp gp ep → ((a : A) → Laws (q a) (Q a) sq gq eq) → (ls rest : List Lexeme) (b : B)
    → bind p q ls ≡ Ok (b, rest) → Took (bind p q) (Bind P Q) ls b rest
bind_reads {p = p} {q = q} lp lq ls rest b h =
    let k = bind_ok (p ls) (λ x. q x.0 x.1) (b, rest) h in
    let tp = lp.reads ls k.0.1 k.0.0 k.1 in
    let tq = (lq k.0.0).reads k.0.1 rest b k.2 in
    record {
      used = tp.used ++ tq.used;
      is = tp.is ∙ ap (λ m. tp.used ++ m) tq.is ∙ sym (append_assoc tp.used tq.used rest);
      fits = (tp.used, tq.used, k.0.0, refl, tp.fits, tq.fits);
      same = λ l tail later e. ap (bind p q) (append_assoc tp.used tq.used (l ∷ later))
          ∙ step (p (tp.used ++ (tq.used ++ l ∷ later))) (λ x. q x.0 x.1)
          (k.0.0, tq.used ++ l ∷ later) _
          (passed tp tq.used l tail later (tq.is ∙ ap (λ m. tq.used ++ m) e))
          (tq.same l tail later e);
    }

bind_broke : {A B : Type 0} {p : Rule A} {P : A → Part} {q : A → Rule B} {Q : A → B → Part}
    {sp gp sq gq : ℕ → Bool} {ep eq : Bool}
    → Laws p P sp gp ep → ((a : A) → Laws (q a) (Q a) sq gq eq) → (ls rest : List Lexeme)
    → (p ls ≡ Err rest) ⊎ ((x : A × List Lexeme) × (p ls ≡ Ok x) × (q x.0 x.1 ≡ Err rest))
    → Broke (bind p q) (Bind P Q) ls rest
bind_broke {p = p} {q = q} lp lq ls rest (inl h) =
    let b = lp.breaks ls rest h in
    let s = (lq b.value).some in
    record {
      before = b.before;
      is = b.is;
      fix = b.fix ++ s.0;
      value = s.1;
      fits = (b.before ++ b.fix, s.0, b.value, sym (append_assoc b.before b.fix s.0), b.fits, s.2);
      same = λ l tail later e. ap (λ (r : Answer _). r >>= λ x. q x.0 x.1) (b.same l tail later e);
    }
bind_broke {p = p} {q = q} lp lq ls rest (inr k) =
    let tp = lp.reads ls k.0.1 k.0.0 k.1 in
    let b = (lq k.0.0).breaks k.0.1 rest k.2 in
    record {
      before = tp.used ++ b.before;
      is = tp.is ∙ ap (λ m. tp.used ++ m) b.is ∙ sym (append_assoc tp.used b.before rest);
      fix = b.fix;
      value = b.value;
      fits =
          (tp.used, b.before ++ b.fix, k.0.0, append_assoc tp.used b.before b.fix, tp.fits, b.fits);
      same = λ l tail later e. ap (bind p q) (append_assoc tp.used b.before (l ∷ later))
          ∙ step (p (tp.used ++ (b.before ++ l ∷ later))) (λ x. q x.0 x.1)
          (k.0.0, b.before ++ l ∷ later) _
          (passed tp b.before l tail later (b.is ∙ ap (λ m. b.before ++ m) e))
          (b.same l tail later e);
    }

bind_first : (sp sq : ℕ → Bool) (ep eq : Bool) (used x y : List Lexeme) → used ≡ x ++ y
    → (begins sp x ≡ true) ⊎ ((ep ≡ true) × (x ≡ []))
    → (begins sq y ≡ true) ⊎ ((eq ≡ true) × (y ≡ []))
    → (begins (joined ep sp sq) used ≡ true) ⊎ ((cond ep eq false ≡ true) × (used ≡ []))
bind_first sp sq ep eq used x y e (inl h) k =
    inl (ap (begins (joined ep sp sq)) e ∙ begins_joined sp sq ep x y h)
bind_first sp sq false eq used x y e (inr h) k = absurd (cc h.0)
bind_first sp sq true eq used x y e (inr h) (inl k) = inl
    (ap (begins (joined true sp sq)) (e ∙ ap (λ (m : List Lexeme). m ++ y) h.1)
    ∙ begins_second sp sq y k)
bind_first sp sq true eq used x y e (inr h) (inr k) =
    inr (k.0, e ∙ ap (λ (m : List Lexeme). m ++ y) h.1 ∙ k.1)

pub bind_laws : {A B : Type 0} {p : Rule A} {P : A → Part} {q : A → Rule B} {Q : A → B → Part}
    {sp gp sq gq : ℕ → Bool} {ep eq : Bool}
    → Laws p P sp gp ep → ((a : A) → Laws (q a) (Q a) sq gq eq) → Apart sq gp
    → Laws (bind p q) (Bind P Q) (joined ep sp sq) (joined eq gq gp) (cond ep eq false)
bind_laws {p = p} {P = P} {q = q} {Q = Q} {sp = sp} {gp = gp} {sq = sq} {gq = gq} {ep = ep}
    {eq = eq} lp lq apart =
    record {
      reads = bind_reads lp lq;
      breaks = λ ls rest h. bind_broke lp lq ls rest (bind_err (p ls) (λ x. q x.0 x.1) rest h);
      complete = λ used rest b f g.
          let x = f.0 in
          let y = f.1 in
          let a = f.2 in
          let calm = follows sq gp gq eq y rest apart ((lq a).first y b f.5) g in
          ap (λ (m : List Lexeme). bind p q (m ++ rest)) f.3 ∙ ap (bind p q) (append_assoc x y rest)
          ∙ step (p (x ++ (y ++ rest))) (λ x. q x.0 x.1) (a, y ++ rest) _
          (lp.complete x (y ++ rest) a f.4 calm)
          ((lq a).complete y rest b f.5 (goes_left gp gq eq rest g));
      first = λ used b f. bind_first sp sq ep eq used f.0 f.1 f.3 (lp.first f.0 f.2 f.4)
          ((lq f.2).first f.1 b f.5);
      some =
          let s = lp.some in
          let t = (lq s.1).some in
          (s.0 ++ t.0, t.1, (s.0, t.0, s.1, refl, s.2, t.2));
    }
