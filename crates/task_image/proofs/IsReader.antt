-- Readers: what is read is what was written and what was written is read again; where a field is at
-- fault, what stands before it begins something that is allowed, and nothing that is allowed agrees
-- with the bytes any further.
use Rattle.std.proofs.Common.{◌≡◌, ◌⊎◌, ℕ, zero, suc, ◌+◌, ◌<◌, ◌≤◌, List, [], ◌∷◌, ◌++◌, length, get_or, Result, Ok, Err, refl, sym, ap, subst, ◌∙◌, append_assoc, arith, inl, inr}
use Rattle.std.specs.Prelude.{⊤}
use Rattle.std.specs.List.{flat_map, concat}
use Rattle.std.proofs.lemmas.List.{length-append, append-nil}
use Rattle.std.proofs.lemmas.List.Concat.{flat_map-cons}
use Rattle.std.proofs.lemmas.List.Folds.{concat-append}
use Rattle.task_image.specs.inner.FieldReaders.{Read, ◌>>=◌, each_at}

abbrev pub IsBytes : List ℕ → Type 0
IsBytes bytes = (i : ℕ) → get_or bytes i 0 < 256

-- what a reader took from the prefix
pub record Takes (bytes text rest : List ℕ) : Type 0 where
  pub parts : bytes ≡ text ++ rest
  pub rest_fits : IsBytes rest

takes_then : (a x b y c : List ℕ) → Takes a x b → Takes b y c → Takes a (x ++ y) c
takes_then a x b y c p q = record {
  parts = p.parts ∙ ap (λ (t : List ℕ). x ++ t) q.parts ∙ sym (append_assoc x y c);
  rest_fits = q.rest_fits;
}

takes_fields : (a : List ℕ) (x : List (List ℕ)) (b : List ℕ) (y : List (List ℕ)) (c : List ℕ)
    → Takes a (concat x) b → Takes b (concat y) c → Takes a (concat (x ++ y)) c
takes_fields a x b y c p q =
    subst (λ (t : List ℕ). Takes a t c) (sym (concat-append x y))
    (takes_then a (concat x) b (concat y) c p q)

pub shorter : (a x b : List ℕ) → Takes a x b → length b ≤ length a
shorter a x b t =
    let e : length a ≡ length x + length b = ap length t.parts ∙ length-append x b in
    omega arith

-- how many bytes a reader leaves, or are left from the field at fault on
abbrev pub left_of : {X : Type 0} → Read X → ℕ
left_of (Ok x) = length x.1
left_of (Err left) = left

-- The bytes begin with fields of something that is allowed, and so many bytes follow.
pub record Begins {X : Type 0} (fields : X → List (List ℕ)) (p : X → Type 0) (bytes : List ℕ)
    (left : ℕ) : Type 0 where
  pub thing : X
  pub allowed : p thing
  pub prefix : List (List ℕ)
  pub more : List (List ℕ)
  pub parts : fields thing ≡ prefix ++ more
  pub rest : List ℕ
  pub bytes_are : bytes ≡ concat prefix ++ rest
  pub long : length rest ≡ left

pub record IsReader {X : Type 0} (fields : X → List (List ℕ)) (p : X → Type 0)
    (read : List ℕ → Read X) : Type 0 where
  pub takes : (bytes : List ℕ) (x : X × List ℕ) → IsBytes bytes → read bytes ≡ Ok x
      → Takes bytes (concat (fields x.0)) x.1 × p x.0
  pub again : (x : X) (rest : List ℕ) → p x → read (concat (fields x) ++ rest) ≡ Ok (x, rest)
  pub begins : (bytes : List ℕ) (left : ℕ) → IsBytes bytes → read bytes ≡ Err left
      → Begins fields p bytes left
  pub most : (bytes : List ℕ) → IsBytes bytes → (x : X) → p x → (prefix more : List (List ℕ))
      → (rest : List ℕ) → fields x ≡ prefix ++ more → bytes ≡ concat prefix ++ rest
      → left_of (read bytes) ≤ length rest

-- ---- results
pub bind_ok : {A B : Type 0} (r : Result A ℕ) (f : A → Result B ℕ) (y : B) → (r >>= f) ≡ Ok y
    → (x : A) × (r ≡ Ok x) × (f x ≡ Ok y)
bind_ok (Ok x) f y e = (x, refl, e)
bind_ok (Err d) f y e = absurd cc

pub bind_err : {A B : Type 0} (r : Result A ℕ) (f : A → Result B ℕ) (n : ℕ) → (r >>= f) ≡ Err n
    → (r ≡ Err n) ⊎ ((x : A) × (r ≡ Ok x) × (f x ≡ Err n))
bind_err (Ok x) f n e = inr (x, refl, e)
bind_err (Err d) f n e = inl cc

abbrev done : {A : Type 0} → A → Result A ℕ
done x = Ok x

pub ok_is : {A : Type 0} (x y : A) → done x ≡ done y → x ≡ y
ok_is x y e = cc

pub ok_no_err : {A : Type 0} (x : A) (n : ℕ) → done x ≡ Err n → ⊥
ok_no_err x n e = cc

-- ---- how many bytes are left
begins_short : {X : Type 0} (fields : X → List (List ℕ)) (p : X → Type 0) (bytes : List ℕ)
    (left : ℕ) → Begins fields p bytes left → left ≤ length bytes
begins_short fields p bytes left b =
    let l : length bytes ≡ length (concat b.prefix) + length b.rest =
    ap length b.bytes_are ∙ length-append (concat b.prefix) b.rest in
    let e = b.long in
    omega (arith, l, e)

module _ {X : Type 0} (fields : X → List (List ℕ)) (p : X → Type 0) (read : List ℕ → Read X)
    (h : IsReader fields p read) where
  pub ends : (bytes : List ℕ) (left : ℕ) → IsBytes bytes → read bytes ≡ Err left
      → left ≤ length bytes
  ends bytes left fits e = begins_short fields p bytes left (h.begins bytes left fits e)

  no_more : (bytes : List ℕ) → IsBytes bytes → left_of (read bytes) ≤ length bytes
  no_more bytes fits = by (read bytes) refl
    where
      by : (r : Read X) → read bytes ≡ r → left_of r ≤ length bytes
      by (Ok x) e = shorter bytes (concat (fields x.0)) x.1 (h.takes bytes x fits e).0
      by (Err left) e = ends bytes left fits e

left_map : {X Y : Type 0} (g : X → Y) (r : Read X)
    → left_of (r >>= λ x. Ok (g x.0, x.1)) ≡ left_of r
left_map g (Ok x) = refl
left_map g (Err left) = refl

-- ---- lists in two parts
split : {Y : Type 0} (a b c d : List Y) → a ++ b ≡ c ++ d
    → ((e : List Y) × (c ≡ a ++ e) × (b ≡ e ++ d)) ⊎ ((e : List Y) × (a ≡ c ++ e) × (d ≡ e ++ b))
split [] b c d e = inl (c, refl, e)
split (x ∷ a) b [] d e = inr (x ∷ a, refl, sym e)
split {Y} (x ∷ a) b (y ∷ c) d e =
    let head : x ≡ y = cc in
    let tail : a ++ b ≡ c ++ d = cc in
    elim (split a b c d tail) [
      | inl s ↦ inl (
        s.0,
        ap (λ (t : List Y). y ∷ t) s.1 ∙ ap (λ (z : Y). z ∷ (a ++ s.0)) (sym head),
        s.2,
      )
      | inr s ↦ inr (
        s.0,
        ap (λ (t : List Y). x ∷ t) s.1 ∙ ap (λ (z : Y). z ∷ (c ++ s.0)) head,
        s.2,
      )
    ]

-- where there are no fields, none are shared
pub ended_most : (bytes : List ℕ) (prefix more : List (List ℕ)) (rest : List ℕ) → [] ≡ prefix ++ more
    → bytes ≡ concat prefix ++ rest → length bytes ≤ length rest
ended_most bytes [] more rest parts are =
    let l : length bytes ≡ length rest = ap length are in
    omega (arith, l)
ended_most bytes (field ∷ prefix) more rest parts are = absurd cc

-- ---- one reader after another
regroup : (a b : List (List ℕ)) (rest : List ℕ)
    → concat (a ++ b) ++ rest ≡ concat a ++ (concat b ++ rest)
regroup a b rest =
    ap (λ (t : List ℕ). t ++ rest) (concat-append a b) ∙ append_assoc (concat a) (concat b) rest

module _ {A : Type 0} (fa : A → List (List ℕ)) (pa : A → Type 0) (ra : List ℕ → Read A)
    (ha : IsReader fa pa ra) where
  -- what stands before a fault of the first reader begins the whole, too
  begins_then : {X : Type 0} (fields : X → List (List ℕ)) (p : X → Type 0) (bytes : List ℕ)
      (left : ℕ) (b : Begins fa pa bytes left) (x : X) (after : List (List ℕ)) → p x
      → fields x ≡ fa b.thing ++ after → Begins fields p bytes left
  begins_then fields p bytes left b x after px e = record {
    thing = x;
    allowed = px;
    prefix = b.prefix;
    more = b.more ++ after;
    parts = e ∙ ap (λ (t : List (List ℕ)). t ++ after) b.parts ∙ append_assoc b.prefix b.more after;
    rest = b.rest;
    bytes_are = b.bytes_are;
    long = b.long;
  }

  -- where a later reader is at fault, what the first one took stands before what it begins
  later_begins : {X Y : Type 0} (fields : X → List (List ℕ)) (p : X → Type 0)
      (fy : Y → List (List ℕ)) (py : Y → Type 0) (bytes : List ℕ) (a : A) (after : List ℕ)
      (left : ℕ) → Takes bytes (concat (fa a)) after → (b : Begins fy py after left) → (x : X)
      → p x → fields x ≡ fa a ++ fy b.thing → Begins fields p bytes left
  later_begins fields p fy py bytes a after left t b x px e = record {
    thing = x;
    allowed = px;
    prefix = fa a ++ b.prefix;
    more = b.more;
    parts = e ∙ ap (λ (t : List (List ℕ)). fa a ++ t) b.parts
        ∙ sym (append_assoc (fa a) b.prefix b.more);
    rest = b.rest;
    bytes_are = t.parts ∙ ap (λ (t : List ℕ). concat (fa a) ++ t) b.bytes_are
        ∙ sym (regroup (fa a) b.prefix b.rest);
    long = b.long;
  }

  -- nothing that is allowed agrees any further with the bytes
  bind_most : {B : Type 0} (f : A × List ℕ → Read B)
      → ((y : A × List ℕ) → IsBytes y.1 → pa y.0 → left_of (f y) ≤ length y.1)
      → (bytes : List ℕ) → IsBytes bytes → (a : A) → pa a → (after prefix more : List (List ℕ))
      → (rest : List ℕ) → fa a ++ after ≡ prefix ++ more → bytes ≡ concat prefix ++ rest
      → ((e : List (List ℕ)) → after ≡ e ++ more → IsBytes (concat e ++ rest)
      → left_of (f (a, concat e ++ rest)) ≤ length rest)
      → left_of (ra bytes >>= f) ≤ length rest
  bind_most {B} f short bytes fits a ok after prefix more rest parts are later =
      elim (split (fa a) after prefix more parts) [
        | inl s ↦
            let whole : bytes ≡ concat (fa a) ++ (concat s.0 ++ rest) =
            are ∙ ap (λ (t : List (List ℕ)). concat t ++ rest) s.1 ∙ regroup (fa a) s.0 rest in
            let reads : ra bytes ≡ Ok (a, concat s.0 ++ rest) =
            ap ra whole ∙ ha.again a (concat s.0 ++ rest) ok in
            let t = ha.takes bytes (a, concat s.0 ++ rest) fits reads in
            subst (λ (r : Read A). left_of (r >>= f) ≤ length rest) (sym reads)
            (later s.0 s.2 t.0.rest_fits)
        | inr s ↦ by (ra bytes) refl (ha.most bytes fits a ok prefix s.0 rest s.1 are)
      ]
    where
      by : (r : Read A) → ra bytes ≡ r → left_of (ra bytes) ≤ length rest
          → left_of (r >>= f) ≤ length rest
      by (Err left) e l = subst (λ (r : Read A). left_of r ≤ length rest) e l
      by (Ok y) e l =
          let t = ha.takes bytes y fits e in
          let k = short y t.0.rest_fits t.1 in
          let m : length y.1 ≤ length rest = subst (λ (r : Read A). left_of r ≤ length rest) e l in
          omega (arith, k, m)

pub then_reads : {A X : Type 0} (fa : A → List (List ℕ)) (pa : A → Type 0) (ra : List ℕ → Read A)
    (key : X → A) (fx : X → List (List ℕ)) (px : X → Type 0) (rx : A → List ℕ → Read X)
    → IsReader fa pa ra
    → ((a : A) → pa a → IsReader fx (λ x. (key x ≡ a) × px x) (rx a))
    → ((a : A) → pa a → (x : X) × (key x ≡ a) × px x)
    → IsReader (λ x. fa (key x) ++ fx x) (λ x. pa (key x) × px x)
    (λ bytes. ra bytes >>= λ a. rx a.0 a.1)
then_reads {A} {X} fa pa ra key fx px rx ha hx some = record {
  takes = λ bytes x fits e.
      let a = bind_ok (ra bytes) (λ a. rx a.0 a.1) x e in
      let t = ha.takes bytes a.0 fits a.1 in
      let u = (hx a.0.0 t.1).takes a.0.1 x t.0.rest_fits a.2 in
      subst (λ (k : A). Takes bytes (concat (fa k ++ fx x.0)) x.1 × (pa k × px x.0)) (sym u.1.0)
      (takes_fields bytes (fa a.0.0) a.0.1 (fx x.0) x.1 t.0 u.0, (t.1, u.1.1));
  again = λ x rest p.
      ap (λ (b : List ℕ). ra b >>= λ a. rx a.0 a.1) (regroup (fa (key x)) (fx x) rest)
      ∙ ap (λ (r : Read A). r >>= λ a. rx a.0 a.1) (ha.again (key x) (concat (fx x) ++ rest) p.0)
      ∙ (hx (key x) p.0).again x rest (refl, p.1);
  begins = λ bytes left fits e.
      elim (bind_err (ra bytes) (λ a. rx a.0 a.1) left e) [
        | inl stops ↦
            let b = ha.begins bytes left fits stops in
            let x = some b.thing b.allowed in
            begins_then fa pa ra ha (λ x. fa (key x) ++ fx x) (λ x. pa (key x) × px x) bytes left b
            x.0 (fx x.0) (subst pa (sym x.1) b.allowed, x.2)
            (ap (λ (a : A). fa a ++ fx x.0) x.1)
        | inr a ↦
            let t = ha.takes bytes a.0 fits a.1 in
            let b = (hx a.0.0 t.1).begins a.0.1 left t.0.rest_fits a.2 in
            later_begins fa pa ra ha (λ x. fa (key x) ++ fx x) (λ x. pa (key x) × px x) fx
            (λ x. (key x ≡ a.0.0) × px x) bytes a.0.0 a.0.1 left t.0 b b.thing
            (subst pa (sym b.allowed.0) t.1, b.allowed.1)
            (ap (λ (a : A). fa a ++ fx b.thing) b.allowed.0)
      ];
  most = λ bytes fits x p prefix more rest parts are.
      bind_most fa pa ra ha (λ a. rx a.0 a.1)
      (λ y fits ok. no_more fx (λ x. (key x ≡ y.0) × px x) (rx y.0) (hx y.0 ok) y.1 fits)
      bytes fits (key x) p.0 (fx x) prefix more rest parts are
      (λ e split fits. (hx (key x) p.0).most (concat e ++ rest) fits x (refl, p.1) e more rest split
      refl);
}

-- a reader whose answer is put into a larger thing
pub map_reads : {A X : Type 0} (fa : A → List (List ℕ)) (pa : A → Type 0) (ra : List ℕ → Read A)
    (key : X → A) (make : A → X) (fixed : X → Type 0)
    → IsReader fa pa ra
    → ((a : A) → (key (make a) ≡ a) × fixed (make a))
    → ((x : X) → fixed x → make (key x) ≡ x)
    → IsReader (λ x. fa (key x)) (λ x. fixed x × pa (key x))
    (λ bytes. ra bytes >>= λ a. Ok (make a.0, a.1))
map_reads {A} {X} fa pa ra key make fixed ha hm hx = record {
  takes = λ bytes x fits e.
      let a = bind_ok (ra bytes) (λ a. Ok (make a.0, a.1)) x e in
      let t = ha.takes bytes a.0 fits a.1 in
      let m = hm a.0.0 in
      let made : X × List ℕ = (make a.0.0, a.0.1) in
      subst (λ (y : X × List ℕ). Takes bytes (concat (fa (key y.0))) y.1
      × (fixed y.0 × pa (key y.0)))
      (ok_is made x a.2)
      (subst (λ (k : A). Takes bytes (concat (fa k)) a.0.1 × (fixed (make a.0.0) × pa k)) (sym m.0)
      (t.0, (m.1, t.1)));
  again = λ x rest p.
      ap (λ (r : Read A). r >>= λ a. Ok (make a.0, a.1)) (ha.again (key x) rest p.1)
      ∙ ap (λ (y : X). Ok (y, rest)) (hx x p.0);
  begins = λ bytes left fits e.
      elim (bind_err (ra bytes) (λ a. Ok (make a.0, a.1)) left e) [
        | inl stops ↦
            let b = ha.begins bytes left fits stops in
            let m = hm b.thing in
            begins_then fa pa ra ha (λ x. fa (key x)) (λ x. fixed x × pa (key x)) bytes left b
            (make b.thing) [] (m.1, subst pa (sym m.0) b.allowed)
            (ap fa m.0 ∙ sym (append-nil (fa b.thing)))
        | inr a ↦ absurd (ok_no_err (make a.0.0, a.0.1) left a.2)
      ];
  most = λ bytes fits x p prefix more rest parts are.
      subst (λ (n : ℕ). n ≤ length rest) (sym (left_map make (ra bytes)))
      (ha.most bytes fits (key x) p.1 prefix more rest parts are);
}

-- the same condition and the same fields in other words
pub same_reads : {X : Type 0} (w v : X → List (List ℕ)) (p q : X → Type 0)
    (read : List ℕ → Read X)
    → IsReader w p read
    → ((x : X) → p x → q x)
    → ((x : X) → q x → p x)
    → ((x : X) → q x → w x ≡ v x)
    → IsReader v q read
same_reads w v p q read h to from is = record {
  takes = λ bytes x fits e.
      let t = h.takes bytes x fits e in
      let ok = to x.0 t.1 in
      (subst (λ (fields : List (List ℕ)). Takes bytes (concat fields) x.1) (is x.0 ok) t.0, ok);
  again = λ x rest ok.
      ap (λ (fields : List (List ℕ)). read (concat fields ++ rest)) (sym (is x ok))
      ∙ h.again x rest (from x ok);
  begins = λ bytes left fits e.
      let b = h.begins bytes left fits e in
      let ok = to b.thing b.allowed in
      record {
        thing = b.thing;
        allowed = ok;
        prefix = b.prefix;
        more = b.more;
        parts = sym (is b.thing ok) ∙ b.parts;
        rest = b.rest;
        bytes_are = b.bytes_are;
        long = b.long;
      };
  most = λ bytes fits x ok prefix more rest parts are.
      h.most bytes fits x (from x ok) prefix more rest (is x ok ∙ parts) are;
}

-- ---- things one after the other
abbrev pub AllFrom : {X : Type 0} → (ℕ → X → Type 0) → ℕ → List X → Type 0
AllFrom p k [] = ⊤
AllFrom p k (x ∷ xs) = p k x × AllFrom p (suc k) xs

abbrev pub SoMany : {X : Type 0} → (ℕ → X → Type 0) → ℕ → ℕ → List X → Type 0
SoMany p k n xs = (length xs ≡ n) × AllFrom p k xs

pub some_many : {X : Type 0} (p : ℕ → X → Type 0) → ((k : ℕ) → (x : X) × p k x) → (k n : ℕ)
    → (xs : List X) × SoMany p k n xs
some_many p some k zero = ([], (refl, tt))
some_many p some k (suc n) =
    let x = some k in
    let xs = some_many p some (suc k) n in
    (x.0 ∷ xs.0, (ap suc xs.1.0, (x.1, xs.1.1)))

module _ {X : Type 0} (w : X → List (List ℕ)) (p : ℕ → X → Type 0) (thing : ℕ → List ℕ → Read X)
    (h : (k : ℕ) → IsReader w (p k) (thing k)) where
  each_takes : (k n : ℕ) (bytes : List ℕ) (x : List X × List ℕ) → IsBytes bytes
      → each_at thing k n bytes ≡ Ok x
      → Takes bytes (concat (flat_map w x.0)) x.1 × SoMany p k n x.0
  unfolding each_at
  each_takes k zero bytes x fits e =
      subst (λ (y : List X × List ℕ). Takes bytes (concat (flat_map w y.0)) y.1 × SoMany p k 0 y.0)
      (ok_is ([], bytes) x e) (record { parts = refl; rest_fits = fits }, (refl, tt))
  each_takes k (suc n) bytes x fits e =
      let a = bind_ok (thing k bytes) (λ first. each_at thing (suc k) n first.1
      >>= λ others. Ok (first.0 ∷ others.0, others.1)) x e in
      let b = bind_ok (each_at thing (suc k) n a.0.1) (λ others. Ok (a.0.0 ∷ others.0, others.1)) x
      a.2 in
      let first = (h k).takes bytes a.0 fits a.1 in
      let second = each_takes (suc k) n a.0.1 b.0 first.0.rest_fits b.1 in
      let both = takes_fields bytes (w a.0.0) a.0.1 (flat_map w b.0.0) b.0.1 first.0 second.0 in
      let made : List X × List ℕ = (a.0.0 ∷ b.0.0, b.0.1) in
      subst (λ (y : List X × List ℕ). Takes bytes (concat (flat_map w y.0)) y.1
      × SoMany p k (suc n) y.0)
      (ok_is made x b.2) (rw flat_map-cons both, (ap suc second.1.0, (first.1, second.1.1)))

  each_again : (k n : ℕ) (xs : List X) (rest : List ℕ) → SoMany p k n xs
      → each_at thing k n (concat (flat_map w xs) ++ rest) ≡ Ok (xs, rest)
  unfolding each_at
  each_again k zero [] rest many = refl
  each_again k zero (x ∷ xs) rest many = absurd (omega (arith, many.0))
  each_again k (suc n) [] rest many = absurd (omega (arith, many.0))
  each_again k (suc n) (x ∷ xs) rest many =
      let parts : concat (flat_map w (x ∷ xs)) ++ rest
      ≡ concat (w x) ++ (concat (flat_map w xs) ++ rest) =
      ap (λ (t : List (List ℕ)). concat t ++ rest) (flat_map-cons w x xs)
      ∙ regroup (w x) (flat_map w xs) rest in
      let long : length xs ≡ n = omega (arith, many.0) in
      ap (each_at thing k (suc n)) parts
      ∙ rw (
        (h k).again x (concat (flat_map w xs) ++ rest) many.1.0,
        each_again (suc k) n xs rest (long, many.1.1),
      ) refl

  each_begins : ((k : ℕ) → (x : X) × p k x) → (k n : ℕ) (bytes : List ℕ) (left : ℕ)
      → IsBytes bytes → each_at thing k n bytes ≡ Err left
      → Begins (flat_map w) (SoMany p k n) bytes left
  unfolding each_at
  each_begins some k zero bytes left fits e = absurd (ok_no_err ([], bytes) left e)
  each_begins some k (suc n) bytes left fits e =
      elim (bind_err (thing k bytes) (λ first. each_at thing (suc k) n first.1
      >>= λ others. Ok (first.0 ∷ others.0, others.1)) left e) [
        | inl stops ↦
            let b = (h k).begins bytes left fits stops in
            let xs = some_many p some (suc k) n in
            begins_then w (p k) (thing k) (h k) (flat_map w) (SoMany p k (suc n)) bytes left b
            (b.thing ∷ xs.0) (flat_map w xs.0) (ap suc xs.1.0, (b.allowed, xs.1.1))
            (flat_map-cons w b.thing xs.0)
        | inr a ↦
            let t = (h k).takes bytes a.0 fits a.1 in
            elim (bind_err (each_at thing (suc k) n a.0.1)
            (λ others. Ok (a.0.0 ∷ others.0, others.1)) left a.2) [
              | inl stops ↦
                  let b = each_begins some (suc k) n a.0.1 left t.0.rest_fits stops in
                  later_begins w (p k) (thing k) (h k) (flat_map w) (SoMany p k (suc n))
                  (flat_map w) (SoMany p (suc k) n) bytes a.0.0 a.0.1 left t.0 b
                  (a.0.0 ∷ b.thing) (ap suc b.allowed.0, (t.1, b.allowed.1))
                  (flat_map-cons w a.0.0 b.thing)
              | inr b ↦ absurd (ok_no_err (a.0.0 ∷ b.0.0, b.0.1) left b.2)
            ]
      ]

  each_short : (k n : ℕ) (bytes : List ℕ) → IsBytes bytes
      → left_of (each_at thing k n bytes) ≤ length bytes
  unfolding each_at
  each_short k zero bytes fits = omega arith
  each_short k (suc n) bytes fits =
      by (thing k bytes) refl (λ rest rest_fits. each_short (suc k) n rest rest_fits)
    where
      by : (r : Read X) → thing k bytes ≡ r
          → ((rest : List ℕ) → IsBytes rest
          → left_of (each_at thing (suc k) n rest) ≤ length rest)
          → left_of (r >>= λ first. each_at thing (suc k) n first.1
          >>= λ others. Ok (first.0 ∷ others.0, others.1)) ≤ length bytes
      by (Err left) e short = ends w (p k) (thing k) (h k) bytes left fits e
      by (Ok y) e short =
          let t = (h k).takes bytes y fits e in
          let s = shorter bytes (concat (w y.0)) y.1 t.0 in
          let l = short y.1 t.0.rest_fits in
          let m = left_map (λ (xs : List X). y.0 ∷ xs) (each_at thing (suc k) n y.1) in
          omega (arith, s, l, m)

  each_most : (k n : ℕ) (bytes : List ℕ) → IsBytes bytes → (xs : List X) → SoMany p k n xs
      → (prefix more : List (List ℕ)) → (rest : List ℕ) → flat_map w xs ≡ prefix ++ more
      → bytes ≡ concat prefix ++ rest → left_of (each_at thing k n bytes) ≤ length rest
  unfolding each_at
  each_most k zero bytes fits [] many prefix more rest parts are =
      ended_most bytes prefix more rest parts are
  each_most k zero bytes fits (x ∷ xs) many prefix more rest parts are =
      absurd (omega (arith, many.0))
  each_most k (suc n) bytes fits [] many prefix more rest parts are =
      absurd (omega (arith, many.0))
  each_most k (suc n) bytes fits (x ∷ xs) many prefix more rest parts are =
      let long : length xs ≡ n = omega (arith, many.0) in
      bind_most w (p k) (thing k) (h k) (λ first. each_at thing (suc k) n first.1
      >>= λ others. Ok (first.0 ∷ others.0, others.1))
      (λ y fits ok.
      subst (λ (m : ℕ). m ≤ length y.1)
      (sym (left_map (λ (xs : List X). y.0 ∷ xs) (each_at thing (suc k) n y.1)))
      (each_short (suc k) n y.1 fits))
      bytes fits x many.1.0 (flat_map w xs) prefix more rest
      (sym (flat_map-cons w x xs) ∙ parts) are
      (λ e split fits.
      subst (λ (m : ℕ). m ≤ length rest)
      (sym (left_map (λ (xs : List X). x ∷ xs) (each_at thing (suc k) n (concat e ++ rest))))
      (each_most (suc k) n (concat e ++ rest) fits xs (long, many.1.1) e more rest split refl))

  pub each_reads : ((k : ℕ) → (x : X) × p k x) → (k n : ℕ)
      → IsReader (flat_map w) (SoMany p k n) (each_at thing k n)
  each_reads some k n = record {
    takes = each_takes k n;
    again = each_again k n;
    begins = each_begins some k n;
    most = each_most k n;
  }
