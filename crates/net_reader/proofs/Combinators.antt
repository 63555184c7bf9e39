-- The laws of one token, of alternatives and of repetition.
use Rattle.std.proofs.Common.{◌≡◌, ℕ, zero, suc, ◌<◌, ◌≤◌, Bool, true, false, cond, ◌||◌, List, [], ◌∷◌, ◌++◌, length, Option, Some, None, Ok, Err, refl, sym, ◌∙◌, ap, subst, append_assoc, append-nil, length-append, arith, ◌⊎◌, inl, inr}
use Rattle.net_reader.specs.Kinds.{class_of}
use Rattle.net_reader.specs.Lexemes.{Lexeme}
use Rattle.net_reader.specs.Grammar.{Part, Says, Each}
use Rattle.net_reader.specs.Reading.{Answer, Rule, Shrinks, ◌>>=◌, taken, one, begins, pure, either, many_up_to, many, more}
use Rattle.net_reader.proofs.Laws.{Took, Broke, Laws, none, joined, Apart, Within, bind_ok, passed, follows, goes_left, begins_joined_to, begins_same, begins_second, step}
use Rattle.std.proofs.lemmas.Bool.{or_left, or_parts}

pub same_laws : {A : Type 0} {p : Rule A} {P Q : A → Part} {s g : ℕ → Bool} {e : Bool}
    → ((a : A) (ts : List Lexeme) → P a ts → Q a ts)
    → ((a : A) (ts : List Lexeme) → Q a ts → P a ts) → Laws p P s g e → Laws p Q s g e
same_laws there back laws = record {
  reads = λ ls rest a h. let t = laws.reads ls rest a h in record
      { used = t.used; is = t.is; fits = there a t.used t.fits; same = t.same };
  breaks = λ ls rest h. let b = laws.breaks ls rest h in record {
    before = b.before;
    is = b.is;
    fix = b.fix;
    value = b.value;
    fits = there b.value
        (b.before ++ b.fix) b.fits;
    same = b.same;
  };
  complete = λ used rest a f. laws.complete used rest a (back a used f);
  first = λ used a f. laws.first used a (back a used f);
  some = (laws.some.0, laws.some.1, there laws.some.1 laws.some.0 laws.some.2);
}

-- more kinds may begin the part, and fewer may stand after it
pub wider_laws : {A : Type 0} {p : Rule A} {P : A → Part} {s g s2 g2 : ℕ → Bool} {e : Bool}
    → Within s s2 → ((ls : List Lexeme) → begins g2 ls ≡ false → begins g ls ≡ false)
    → Laws p P s g e → Laws p P s2 g2 e
wider_laws {P = P} {s = s} {s2 = s2} {e = e} inside calm laws = record {
  reads = laws.reads;
  breaks = laws.breaks;
  complete = λ used rest a f h. laws.complete used rest a f (calm rest h);
  first = λ used a f. wider used (laws.first used a f);
  some = laws.some;
}
  where
    begun : (used : List Lexeme) → begins s used ≡ true → begins s2 used ≡ true
    begun [] h = absurd cc
    begun (l ∷ used) h = inside.on l.kind h

    wider : (used : List Lexeme) → (begins s used ≡ true) ⊎ ((e ≡ true) × (used ≡ []))
        → (begins s2 used ≡ true) ⊎ ((e ≡ true) × (used ≡ []))
    wider used (inl h) = inl (begun used h)
    wider used (inr h) = inr h

pub begins_none : (g : ℕ → Bool) (ls : List Lexeme) → begins g ls ≡ false → begins none ls ≡ false
begins_none g [] h = refl
begins_none g (l ∷ ls) h = refl

-- one token

ok_same : {A : Type 0} (x y : A × List Lexeme) → ◌≡◌ {A = Answer A} (Ok x) (Ok y) → x ≡ y
ok_same x y h = cc

taken_ok : {A : Type 0} (o : Option A) (l : Lexeme) (ls rest : List Lexeme) (a : A)
    → taken o l ls ≡ Ok (a, rest) → (o ≡ Some a) × (ls ≡ rest)
taken_ok (Some x) l ls rest a h =
    let e = ok_same (x, ls) (a, rest) h in (ap (λ (z : _). Some z.0) e, ap (λ (z : _). z.1) e)
taken_ok None l ls rest a h = absurd cc

taken_err : {A : Type 0} (o : Option A) (l : Lexeme) (ls rest : List Lexeme)
    → taken o l ls ≡ Err rest → (o ≡ None) × (l ∷ ls ≡ rest)
taken_err (Some x) l ls rest h = absurd cc
taken_err None l ls rest h = (refl, cc)

one_reads : {A : Type 0} (f : Lexeme → Option A) (ls rest : List Lexeme) (a : A)
    → one f ls ≡ Ok (a, rest) → Took (one f) (Says f) ls a rest
one_reads f [] rest a h = absurd cc
one_reads f (l ∷ ls) rest a h =
    let e = taken_ok (f l) l ls rest a h in
    record {
      used = l ∷ [];
      is = ap (λ m. l ∷ m) e.1;
      fits = (l, refl, e.0);
      same = λ m tail later
          _. ap (λ (o : Option _). taken o l (m ∷ later)) e.0;
    }

one_breaks : {A : Type 0} (f : Lexeme → Option A) (sample : Lexeme) (value : A)
    → f sample ≡ Some value → (ls rest : List Lexeme) → one f ls ≡ Err rest
    → Broke (one f) (Says f) ls rest
one_breaks f sample value is [] rest h =
    let e : [] ≡ rest = cc in
    record {
      before = [];
      is = e;
      fix = sample
          ∷ [];
      value = value;
      fits = (sample, refl, is);
      same = λ m tail later k. absurd (cc (e, k));
    }
one_breaks f sample value is (l ∷ ls) rest h =
    let e = taken_err (f l) l ls rest h in
    record {
      before = [];
      is = e.1;
      fix = sample ∷ [];
      value = value;
      fits = (sample, refl, is);
      same = λ m tail later k.
          let same : l ≡ m = cc (e.1, k) in
          let no : f m ≡ None = ap f (sym same) ∙ e.0 in
          ap (λ (o : Option _). taken o m later) no;
    }

pub one_laws : {A : Type 0} (f : Lexeme → Option A) (t : ℕ → Bool)
    → ((l : Lexeme) (a : A) → f l ≡ Some a → t (class_of l.kind) ≡ true)
    → (sample : Lexeme) (value : A) → f sample ≡ Some value → Laws (one f) (Says f) t none false
one_laws f t tells sample value is = record {
  reads = one_reads f;
  breaks = one_breaks f sample value is;
  complete =
      λ used rest a says _. ap (λ (m : List Lexeme). one f (m ++ rest)) says.1
      ∙ ap (λ (o : Option _). taken o says.0 rest) says.2;
  first = λ used a says. inl (ap (begins t) says.1 ∙ tells says.0 a says.2);
  some = (sample ∷ [], value, (sample, refl, is));
}

-- no token

abbrev pub Just : {A : Type 0} → A → A → Part
Just a b ts = (b ≡ a) × (ts ≡ [])

pure_reads : {A : Type 0} (a : A) (ls rest : List Lexeme) (b : A) → pure a ls ≡ Ok (b, rest)
    → Took (pure a) (Just a) ls b rest
pure_reads a ls rest b h =
    let k = ok_same (a, ls) (b, rest) h in
    let e : a ≡ b = ap (λ (z : _). z.0) k in
    record {
      used = [];
      is = ap (λ (z : _). z.1) k;
      fits = (sym e, refl);
      same = λ l tail later _.
          ap (λ (x : _). Ok (x, l ∷ later)) e;
    }

pure_breaks : {A : Type 0} (a : A) (ls rest : List Lexeme) → pure a ls ≡ Err rest
    → Broke (pure a) (Just a) ls rest
pure_breaks a ls rest h = absurd cc

pub pure_laws : {A : Type 0} (a : A) → Laws (pure a) (Just a) none none true
pure_laws a = record {
  reads = pure_reads a;
  breaks = pure_breaks a;
  complete =
      λ used rest b f _. ap (λ (m : List Lexeme). Ok (a, m ++ rest)) f.1
      ∙ ap (λ (x : _). Ok (x, rest)) (sym f.0);
  first = λ used b f. inr (refl, f.1);
  some = ([], a, (refl, refl));
}

-- alternatives

abbrev pub Or : {A : Type 0} → (A → Part) → (A → Part) → A → Part
Or P Q a ts = P a ts ⊎ Q a ts

chosen : {A : Type 0} (b c : Bool) (x y : A) → c ≡ b → cond c x y ≡ cond b x y
chosen b c x y e = ap (λ (d : Bool). cond d x y) e

either_took : {A : Type 0} {p q : Rule A} {P Q : A → Part} {sp gp sq gq : ℕ → Bool} {ep eq : Bool}
    (test : ℕ → Bool)
    → Laws p P sp gp ep → Laws q Q sq gq eq → (ls rest : List Lexeme) (a : A) (b : Bool)
    → begins test ls ≡ b → cond b (p ls) (q ls) ≡ Ok (a, rest)
    → Took (either test p q) (Or P Q) ls a rest
either_took {p = p} {q = q} test lp lq ls rest a true t h =
    let k = lp.reads ls rest a h in
    record {
      used = k.used;
      is = k.is;
      fits = inl k.fits;
      same = λ l tail later e.
          let n : begins test (k.used ++ l ∷ later) ≡ true = begins_same test k.used l tail later
          ∙ ap (begins test) (sym (k.is ∙ ap (λ m. k.used ++ m) e)) ∙ t in
          chosen true _ (p (k.used ++ l ∷ later)) (q (k.used ++ l ∷ later)) n
          ∙ k.same l tail later e;
    }
either_took {p = p} {q = q} test lp lq ls rest a false t h =
    let k = lq.reads ls rest a h in
    record {
      used = k.used;
      is = k.is;
      fits = inr k.fits;
      same = λ l tail later e.
          let n : begins test (k.used ++ l ∷ later) ≡ false = begins_same test k.used l tail later
          ∙ ap (begins test) (sym (k.is ∙ ap (λ m. k.used ++ m) e)) ∙ t in
          chosen false _ (p (k.used ++ l ∷ later)) (q (k.used ++ l ∷ later)) n
          ∙ k.same l tail later e;
    }

either_broke : {A : Type 0} {p q : Rule A} {P Q : A → Part} {sp gp sq gq : ℕ → Bool} {ep eq : Bool}
    (test : ℕ → Bool)
    → Laws p P sp gp ep → Laws q Q sq gq eq → (ls rest : List Lexeme) (b : Bool)
    → begins test ls ≡ b → cond b (p ls) (q ls) ≡ Err rest
    → Broke (either test p q) (Or P Q) ls rest
either_broke {p = p} {q = q} test lp lq ls rest true t h =
    let k = lp.breaks ls rest h in
    record {
      before = k.before;
      is = k.is;
      fix = k.fix;
      value = k.value;
      fits = inl k.fits;
      same = λ l tail later e.
          let n : begins test (k.before ++ l ∷ later)
          ≡ true = begins_same test k.before l tail later
          ∙ ap (begins test) (sym (k.is ∙ ap (λ m. k.before ++ m) e)) ∙ t in
          chosen true _ (p (k.before ++ l ∷ later)) (q (k.before ++ l ∷ later)) n
          ∙ k.same l tail later e;
    }
either_broke {p = p} {q = q} test lp lq ls rest false t h =
    let k = lq.breaks ls rest h in
    record {
      before = k.before;
      is = k.is;
      fix = k.fix;
      value = k.value;
      fits = inr k.fits;
      same = λ l tail later e.
          let n : begins test (k.before ++ l ∷ later)
          ≡ false = begins_same test k.before l tail later
          ∙ ap (begins test) (sym (k.is ∙ ap (λ m. k.before ++ m) e)) ∙ t in
          chosen false _ (p (k.before ++ l ∷ later)) (q (k.before ++ l ∷ later)) n
          ∙ k.same l tail later e;
    }

left_begins : (sp test : ℕ → Bool) (used rest : List Lexeme) → Within sp test
    → (begins sp used ≡ true) ⊎ ((false ≡ true) × (used ≡ [])) → begins test (used ++ rest) ≡ true
left_begins sp test used rest within (inl h) = begins_joined_to sp test used rest within h
left_begins sp test used rest within (inr h) = absurd (cc h.0)

either_complete : {A : Type 0} {p q : Rule A} {P Q : A → Part} {sp gp sq gq : ℕ → Bool} {eq : Bool}
    (test : ℕ → Bool)
    → Laws p P sp gp false → Laws q Q sq gq eq → Within sp test → Apart sq test
    → (used rest : List Lexeme) (a : A) → Or P Q a used
    → begins (joined eq (λ c. gp c || gq c) test) rest ≡ false
    → either test p q (used ++ rest) ≡ Ok (a, rest)
either_complete {p = p} {q = q} {sp = sp} {gp = gp} {sq = sq} {gq = gq} {eq = eq} test lp lq within
    apart used rest a (inl f) g =
    let both = goes_left test (λ c. gp c || gq c) eq rest g in
    chosen true _ (p (used ++ rest)) (q (used ++ rest))
    (left_begins sp test used rest within (lp.first used a f))
    ∙ lp.complete used rest a f (goes_left gq gp true rest both)
either_complete {p = p} {q = q} {sp = sp} {gp = gp} {sq = sq} {gq = gq} {eq = eq} test lp lq within
    apart used rest a (inr f) g =
    let both = goes_left test (λ c. gp c || gq c) eq rest g in
    let calm = follows sq test (λ c. gp c || gq c) eq used rest apart (lq.first used a f) g in
    chosen false _ (p (used ++ rest)) (q (used ++ rest)) calm
    ∙ lq.complete used rest a f (goes_right gp gq rest both)
  where
    goes_right : (s t : ℕ → Bool) (ms : List Lexeme) → begins (λ c. s c || t c) ms ≡ false
        → begins t ms ≡ false
    goes_right s t [] h = refl
    goes_right s t (l ∷ ms) h = (or_parts (s (class_of l.kind)) (t (class_of l.kind)) h).1

either_first : (sp sq : ℕ → Bool) (eq : Bool) (used : List Lexeme)
    → ((begins sp used ≡ true) ⊎ ((false ≡ true) × (used ≡ [])))
    ⊎ ((begins sq used ≡ true) ⊎ ((eq ≡ true) × (used ≡ [])))
    → (begins (λ c. sp c || sq c) used ≡ true) ⊎ ((eq ≡ true) × (used ≡ []))
either_first sp sq eq [] (inl (inl h)) = absurd cc
either_first sp sq eq (l ∷ used) (inl (inl h)) =
    inl (or_left (sp (class_of l.kind)) (sq (class_of l.kind)) h)
either_first sp sq eq used (inl (inr h)) = absurd (cc h.0)
either_first sp sq eq used (inr (inl h)) = inl (begins_second sp sq used h)
either_first sp sq eq used (inr (inr h)) = inr h

pub either_laws : {A : Type 0} {p q : Rule A} {P Q : A → Part} {sp gp sq gq : ℕ → Bool} {eq : Bool}
    (test : ℕ → Bool)
    → Laws p P sp gp false → Laws q Q sq gq eq → Within sp test → Apart sq test
    → Laws (either test p q) (Or P Q) (λ c. sp c || sq c) (joined eq (λ c. gp c || gq c) test) eq
either_laws {P = P} {Q = Q} {sp = sp} {sq = sq} {eq = eq} test lp lq within apart = record {
  reads = λ ls rest a h. either_took test lp lq ls rest a (begins test ls) refl h;
  breaks = λ ls rest h. either_broke test lp lq ls rest (begins test ls) refl h;
  complete = either_complete test lp lq within apart;
  first = λ used a f. either_first sp sq eq used
      (elim f as (λ _. ((begins sp used ≡ true) ⊎ ((false ≡ true) × (used ≡ [])))
      ⊎ ((begins sq used ≡ true) ⊎ ((eq ≡ true) × (used ≡ []))))
      [ inl h ↦ inl (lp.first used a h) | inr h ↦ inr (lq.first used a h) ]);
  some = (lp.some.0, lp.some.1, inl lp.some.2);
}

-- repetition

shorter_by : {A : Type 0} {p : Rule A} {P : A → Part} (sp : ℕ → Bool) (ls rest : List Lexeme)
    (a : A) (t : Took p P ls a rest)
    → (begins sp t.used ≡ true) ⊎ ((false ≡ true) × (t.used ≡ [])) → length rest < length ls
shorter_by sp ls rest a t (inr h) = absurd (cc h.0)
shorter_by sp ls rest a t (inl h) =
    let some : 0 < length t.used = long t.used h in
    omega (arith, ap length t.is, length-append t.used rest)
  where
    long : (u : List Lexeme) → begins sp u ≡ true → 0 < length u
    long [] e = absurd cc
    long (l ∷ u) e = omega arith

pub shrinks : {A : Type 0} {p : Rule A} {P : A → Part} {s g : ℕ → Bool} → Laws p P s g false
    → Shrinks p
shrinks {s = s} laws ls rest a h =
    let t = laws.reads ls rest a h in shorter_by s ls rest a t (laws.first t.used a t.fits)

abbrev with_item : {A : Type 0} → A → Answer (List A) → Answer (List A)
with_item a r = r >>= λ y. Ok (a ∷ y.0, y.1)

enough_after : {A : Type 0} (test : ℕ → Bool) (p : Rule A) → Shrinks p → (m n : ℕ)
    → ((ms : List Lexeme) → length ms ≤ m → length ms ≤ n → many_up_to m test p ms
    ≡ many_up_to n test p ms)
    → (ls : List Lexeme) → length ls ≤ suc m → length ls ≤ suc n → (r : Answer A) → p ls ≡ r
    → (r >>= λ x. with_item x.0 (many_up_to m test p x.1))
    ≡ (r >>= λ x. with_item x.0 (many_up_to n test p x.1))
enough_after test p shrinks m n ih ls h k (Err rest) e = refl
enough_after test p shrinks m n ih ls h k (Ok x) e =
    let less = shrinks ls x.1 x.0 e in
    ap (with_item x.0) (ih x.1 (omega arith) (omega arith))

-- more turns than tokens make no difference
enough : {A : Type 0} (test : ℕ → Bool) (p : Rule A) → Shrinks p → (m n : ℕ) (ls : List Lexeme)
    → length ls ≤ m → length ls ≤ n → many_up_to m test p ls ≡ many_up_to n test p ls
enough test p shrinks zero zero ls h k = refl
enough test p shrinks zero (suc n) [] h k = refl
enough test p shrinks (suc m) zero [] h k = refl
enough test p shrinks zero (suc n) (l ∷ ls) h k = absurd (omega arith)
enough test p shrinks (suc m) zero (l ∷ ls) h k = absurd (omega arith)
enough test p shrinks (suc m) (suc n) ls h k = ap
    (λ (r : Answer _). cond (begins test ls) r (Ok ([], ls)))
    (enough_after test p shrinks m n (enough test p shrinks m n) ls h k (p ls) refl)

pub many_none : {A : Type 0} (test : ℕ → Bool) (p : Rule A) (ls : List Lexeme)
    → begins test ls ≡ false → many test p ls ≡ Ok ([], ls)
unfolding many
many_none test p [] h = refl
many_none test p (l ∷ ls) h = chosen false _
    (p (l ∷ ls) >>= λ x. many_up_to (length ls) test p x.1 >>= λ y. Ok (x.0 ∷ y.0, y.1))
    (Ok ([], l ∷ ls)) h

pub many_some : {A : Type 0} (test : ℕ → Bool) (p : Rule A) → Shrinks p
    → (ls rest : List Lexeme) (a : A) → begins test ls ≡ true → p ls ≡ Ok (a, rest)
    → many test p ls ≡ more test p a rest
unfolding many
many_some test p shrinks [] rest a h e = absurd cc
many_some test p shrinks (l ∷ ls) rest a h e =
    let less = shrinks (l ∷ ls) rest a e in
    chosen true _ (p (l ∷ ls) >>= λ x. many_up_to (length ls) test p x.1 >>= λ y. Ok
    (x.0 ∷ y.0, y.1)) (Ok ([], l ∷ ls)) h
    ∙ step (p (l ∷ ls)) (λ x. with_item x.0 (many_up_to (length ls) test p x.1)) (a, rest) _ e refl
    ∙ ap (with_item a) (enough test p shrinks (length ls) (length rest) rest (omega arith)
    (omega arith))

pub many_err : {A : Type 0} (test : ℕ → Bool) (p : Rule A) (ls rest : List Lexeme)
    → begins test ls ≡ true → p ls ≡ Err rest → many test p ls ≡ Err rest
unfolding many
many_err test p [] rest h e = absurd cc
many_err test p (l ∷ ls) rest h e =
    chosen true _ (p (l ∷ ls) >>= λ x. many_up_to (length ls) test p x.1 >>= λ y. Ok
    (x.0 ∷ y.0, y.1)) (Ok ([], l ∷ ls)) h
    ∙ ap (λ (r : Answer _). r >>= λ x. with_item x.0 (many_up_to (length ls) test p x.1)) e

-- nothing more is read
ended : {A : Type 0} (p : Rule A) (P : A → Part) (test : ℕ → Bool) (ls rest : List Lexeme)
    (found : List A)
    → begins test ls ≡ false → many test p ls ≡ Ok (found, rest)
    → Took (many test p) (Each P) ls found rest
ended p P test ls rest found t h =
    let k = ok_same ([], ls) (found, rest) (sym (many_none test p ls t) ∙ h) in
    let e : [] ≡ found = ap (λ (z : _). z.0) k in
    let left : ls ≡ rest = ap (λ (z : _). z.1) k in
    record {
      used = [];
      is = left;
      fits = subst (λ (xs : List _). Each P xs []) e refl;
      same = λ l tail later f.
          let n : begins test (l ∷ later) ≡ false = begins_same test [] l tail later
          ∙ ap (begins test) (sym (left ∙ f)) ∙ t in
          many_none test p (l ∷ later) n ∙ ap (λ (xs : List _). Ok (xs, l ∷ later)) e;
    }

test_at : {A : Type 0} {p : Rule A} {P : A → Part} {ls rest : List Lexeme} {a : A}
    (sp test : ℕ → Bool) (t : Took p P ls a rest)
    → Within sp test → (begins sp t.used ≡ true) ⊎ ((false ≡ true) × (t.used ≡ []))
    → (later : List Lexeme) → begins test (t.used ++ later) ≡ true
test_at sp test t within first later = left_begins sp test t.used later within first

-- an item, and then what was read after it
after_item : {A : Type 0} {p : Rule A} {P : A → Part} {sp gp : ℕ → Bool} (test : ℕ → Bool)
    → Laws p P sp gp false → Within sp test → (ls mid rest : List Lexeme) (a : A) (others : List A)
    → p ls ≡ Ok (a, mid) → Took (many test p) (Each P) mid others rest
    → Took (many test p) (Each P) ls (a ∷ others) rest
after_item {p = p} {sp = sp} test laws within ls mid rest a others h tm =
    let t = laws.reads ls mid a h in
    record {
      used = t.used ++ tm.used;
      is = t.is ∙ ap (λ m. t.used ++ m) tm.is ∙ sym (append_assoc t.used tm.used rest);
      fits = (t.used, tm.used, refl, t.fits, tm.fits);
      same = λ l tail later e.
          let again = passed t tm.used l tail later (tm.is ∙ ap (λ m. tm.used ++ m) e) in
          ap (many test p) (append_assoc t.used tm.used (l ∷ later))
          ∙ many_some test p (shrinks laws) (t.used ++ (tm.used ++ l ∷ later))
          (tm.used ++ l ∷ later) a (test_at sp test t within (laws.first t.used a t.fits)
          (tm.used ++ l ∷ later)) again
          ∙ step (many test p (tm.used ++ l ∷ later)) (λ y. Ok (a ∷ y.0, y.1)) (others, l ∷ later) _
          (tm.same l tail later e) refl;
    }

item_took : {A : Type 0} {p : Rule A} {P : A → Part} {sp gp : ℕ → Bool} (test : ℕ → Bool)
    → (laws : Laws p P sp gp false) → Within sp test
    → (m : ℕ) (ls rest : List Lexeme) (found : List A) → length ls ≤ suc m → begins test ls ≡ true
    → many test p ls ≡ Ok (found, rest)
    → ((mid left : List Lexeme) (others : List A) → length mid ≤ m → many test p mid
    ≡ Ok (others, left) → Took (many test p) (Each P) mid others left)
    → (r : Answer A) → p ls ≡ r → Took (many test p) (Each P) ls found rest
item_took {p = p} test laws within m ls rest found n t h ih (Err fault) e =
    absurd (cc (many_err test p ls fault t e, h))
item_took {A = A} {p = p} {P = P} test laws within m ls rest found n t h ih (Ok x) e =
    let less = shrinks laws ls x.1 x.0 e in
    let k = bind_ok (many test p x.1) (λ y. Ok (x.0 ∷ y.0, y.1)) (found, rest)
    (sym (many_some test p (shrinks laws) ls x.1 x.0 t e) ∙ h) in
    let same = ok_same (x.0 ∷ k.0.0, k.0.1) (found, rest) k.2 in
    let tm = ih x.1 k.0.1 k.0.0 (omega arith) k.1 in
    subst (λ (z : List A × List Lexeme). Took (many test p) (Each P) ls z.0 z.1) same
    (after_item test laws within ls x.1 k.0.1 x.0 k.0.0 e tm)

many_reads : {A : Type 0} {p : Rule A} {P : A → Part} {sp gp : ℕ → Bool} (test : ℕ → Bool)
    → Laws p P sp gp false → Within sp test → (m : ℕ) (ls rest : List Lexeme) (found : List A)
    → length ls ≤ m → (b : Bool) → begins test ls ≡ b → many test p ls ≡ Ok (found, rest)
    → Took (many test p) (Each P) ls found rest
many_reads {p = p} {P = P} test laws within m ls rest found n false t h =
    ended p P test ls rest found t h
many_reads test laws within zero [] rest found n true t h = absurd cc
many_reads test laws within zero (l ∷ ls) rest found n true t h = absurd (omega arith)
many_reads {p = p} test laws within (suc m) ls rest found n true t h = item_took test laws within m
    ls rest found n t h (λ mid left others few. many_reads test laws within m mid left others few
    (begins test mid) refl) (p ls) refl

-- the next item doesn't fit
item_broke : {A : Type 0} {p : Rule A} {P : A → Part} {sp gp : ℕ → Bool} (test : ℕ → Bool)
    → Laws p P sp gp false → (ls rest : List Lexeme) → begins test ls ≡ true → p ls ≡ Err rest
    → Broke (many test p) (Each P) ls rest
item_broke {p = p} test laws ls rest t h =
    let b = laws.breaks ls rest h in
    record {
      before = b.before;
      is = b.is;
      fix = b.fix;
      value = b.value ∷ [];
      fits = (b.before ++ b.fix, [], sym (append-nil (b.before ++ b.fix)), b.fits, refl);
      same = λ l tail later e.
          let n : begins test (b.before ++ l ∷ later)
          ≡ true = begins_same test b.before l tail later
          ∙ ap (begins test) (sym (b.is ∙ ap (λ m. b.before ++ m) e)) ∙ t in
          many_err test p (b.before ++ l ∷ later) (l ∷ later) n (b.same l tail later e);
    }

after_broke : {A : Type 0} {p : Rule A} {P : A → Part} {sp gp : ℕ → Bool} (test : ℕ → Bool)
    → Laws p P sp gp false → Within sp test → (ls mid rest : List Lexeme) (a : A)
    → p ls ≡ Ok (a, mid) → Broke (many test p) (Each P) mid rest
    → Broke (many test p) (Each P) ls rest
after_broke {p = p} {sp = sp} test laws within ls mid rest a h b =
    let t = laws.reads ls mid a h in
    record {
      before = t.used ++ b.before;
      is = t.is ∙ ap (λ m. t.used ++ m) b.is ∙ sym (append_assoc t.used b.before rest);
      fix = b.fix;
      value = a ∷ b.value;
      fits = (t.used, b.before ++ b.fix, append_assoc t.used b.before b.fix, t.fits, b.fits);
      same = λ l tail later e.
          let again = passed t b.before l tail later (b.is ∙ ap (λ m. b.before ++ m) e) in
          ap (many test p) (append_assoc t.used b.before (l ∷ later))
          ∙ many_some test p (shrinks laws) (t.used ++ (b.before ++ l ∷ later))
          (b.before ++ l ∷ later) a (test_at sp test t within (laws.first t.used a t.fits)
          (b.before ++ l ∷ later)) again
          ∙ ap (with_item a) (b.same l tail later e);
    }

item_err : {A : Type 0} (a : A) (r : Answer (List A)) (fault : List Lexeme)
    → with_item a r ≡ Err fault → r ≡ Err fault
item_err a (Ok y) fault k = absurd cc
item_err a (Err e) fault k = let same : e ≡ fault = cc in ap Err same

item_breaks : {A : Type 0} {p : Rule A} {P : A → Part} {sp gp : ℕ → Bool} (test : ℕ → Bool)
    → (laws : Laws p P sp gp false) → Within sp test → (m : ℕ) (ls rest : List Lexeme)
    → length ls ≤ suc m → begins test ls ≡ true → many test p ls ≡ Err rest
    → ((mid : List Lexeme) → length mid ≤ m → many test p mid ≡ Err rest
    → Broke (many test p) (Each P) mid rest)
    → (r : Answer A) → p ls ≡ r → Broke (many test p) (Each P) ls rest
item_breaks {p = p} test laws within m ls rest n t h ih (Err fault) e =
    let same : fault ≡ rest = cc (many_err test p ls fault t e, h) in
    item_broke test laws ls rest t (e ∙ ap Err same)
item_breaks {p = p} test laws within m ls rest n t h ih (Ok x) e =
    let less = shrinks laws ls x.1 x.0 e in
    after_broke test laws within ls x.1 rest x.0 e
    (ih x.1 (omega arith) (item_err x.0 (many test p x.1) rest
    (sym (many_some test p (shrinks laws) ls x.1 x.0 t e) ∙ h)))

many_breaks : {A : Type 0} {p : Rule A} {P : A → Part} {sp gp : ℕ → Bool} (test : ℕ → Bool)
    → Laws p P sp gp false → Within sp test → (m : ℕ) (ls rest : List Lexeme) → length ls ≤ m
    → (b : Bool) → begins test ls ≡ b → many test p ls ≡ Err rest
    → Broke (many test p) (Each P) ls rest
many_breaks {p = p} test laws within m ls rest n false t h = absurd (cc (many_none test p ls t, h))
many_breaks test laws within zero [] rest n true t h = absurd cc
many_breaks test laws within zero (l ∷ ls) rest n true t h = absurd (omega arith)
many_breaks {p = p} test laws within (suc m) ls rest n true t h = item_breaks test laws within m ls
    rest n t h (λ mid few. many_breaks test laws within m mid rest few (begins test mid) refl)
    (p ls) refl

many_first : {A : Type 0} {p : Rule A} {P : A → Part} {sp gp : ℕ → Bool} → Laws p P sp gp false
    → (used : List Lexeme) (found : List A) → Each P found used
    → (begins sp used ≡ true) ⊎ ((true ≡ true) × (used ≡ []))
many_first laws used [] f = inr (refl, f)
many_first {sp = sp} laws used (a ∷ others) f = inl
    (ap (begins sp) f.2 ∙ left_begins sp sp f.0 f.1 (record { on = λ k h. h })
    (laws.first f.0 a f.3))

or_both : (b : Bool) → b ≡ false → (b || b) ≡ false
or_both false h = refl
or_both true h = absurd cc

both : (gp : ℕ → Bool) (ms : List Lexeme) → begins gp ms ≡ false
    → begins (joined true gp gp) ms ≡ false
both gp [] h = refl
both gp (l ∷ ms) h = or_both (gp (class_of l.kind)) h

many_complete : {A : Type 0} {p : Rule A} {P : A → Part} {sp gp : ℕ → Bool} (test : ℕ → Bool)
    → Laws p P sp gp false → Within sp test → Apart sp gp
    → (used rest : List Lexeme) (found : List A) → Each P found used
    → begins (joined true gp test) rest ≡ false → many test p (used ++ rest) ≡ Ok (found, rest)
many_complete {p = p} {gp = gp} test laws within apart used rest [] f g =
    ap (λ (m : List Lexeme). many test p (m ++ rest)) f ∙ many_none test p rest (tested rest g)
  where
    tested : (ms : List Lexeme) → begins (joined true gp test) ms ≡ false → begins test ms ≡ false
    tested [] h = refl
    tested (l ∷ ms) h = (or_parts (gp (class_of l.kind)) (test (class_of l.kind)) h).1
many_complete {p = p} {sp = sp} {gp = gp} test laws within apart used rest (a ∷ others) f g =
    let x = f.0 in
    let y = f.1 in
    let calm = follows sp gp gp true y rest apart (many_first laws y others f.4)
    (both gp rest (goes_left test gp true rest g)) in
    ap (λ (m : List Lexeme). many test p (m ++ rest)) f.2 ∙ ap (many test p) (append_assoc x y rest)
    ∙ many_some test p (shrinks laws) (x ++ (y ++ rest)) (y ++ rest) a
    (left_begins sp test x (y ++ rest) within (laws.first x a f.3))
    (laws.complete x (y ++ rest) a f.3 calm)
    ∙ step (many test p (y ++ rest)) (λ z. Ok (a ∷ z.0, z.1)) (others, rest) _
    (many_complete test laws within apart y rest others f.4 g) refl

pub many_laws : {A : Type 0} {p : Rule A} {P : A → Part} {sp gp : ℕ → Bool} (test : ℕ → Bool)
    → Laws p P sp gp false → Within sp test → Apart sp gp
    → Laws (many test p) (Each P) sp (joined true gp test) true
many_laws test laws within apart = record {
  reads = λ ls rest found h. many_reads test laws within (length ls) ls rest found (omega arith)
      (begins test ls) refl h;
  breaks = λ ls rest h. many_breaks test laws within (length ls) ls rest (omega arith)
      (begins test ls) refl h;
  complete = many_complete test laws within apart;
  first = many_first laws;
  some = ([], [], refl);
}
