-- Texts that are told apart, and the new ones of a list.
use Rattle.std.proofs.Common.{◌≡◌, ℕ, Bool, true, false, cond, not, ◌&&◌, ◌||◌, List, [], ◌∷◌, ◌++◌, map, filter, bytes_eq, refl, sym, ap, ◌∙◌}
use Rattle.std.specs.Prelude.{⊤}
use Rattle.std.specs.List.{list_any}
use Rattle.std.specs.Cmp.Lexicographic.{nat_list_eq_equiv}
use Rattle.std.proofs.lemmas.Bool.{false_from_ne_true, false≢true, or_from, or_left, or_parts, or_right}
use Rattle.std.proofs.lemmas.List.Elements.{filter-append}
use Rattle.std.proofs.lemmas.List.Folds.{list_any-append}
use Rattle.std.proofs.lemmas.Map.Views.{any-filter_same}
use Rattle.std.proofs.lemmas.Slice.Eq.{bytes_eq-Decides}
use Rattle.run_survey.specs.Kinds.{differs, new_texts}
use Rattle.polis_base.proofs.Lookups.{bytes_same}

-- ---- texts

pub itself : (a : List ℕ) → bytes_eq a a ≡ true
itself a = (bytes_eq-Decides a a).1 refl

pub turned : (a b : List ℕ) → bytes_eq a b ≡ bytes_eq b a
turned a b = nat_list_eq_equiv.symm a b

-- a text that stands in the list isn't one that doesn't
pub other_text : (q t : List ℕ) (texts : List (List ℕ)) → list_any (bytes_eq q) texts ≡ false
    → list_any (bytes_eq t) texts ≡ true → bytes_eq q t ≡ false
other_text q t texts none there =
    false_from_ne_true (bytes_eq q t) (λ e.
    false≢true
    (sym none ∙ (ap (λ (x : List ℕ). list_any (bytes_eq x) texts) (bytes_same q t e) ∙ there)))

-- functions that agree at each text of the list
pub map_same : {Y : Type 0} (f g : List ℕ → Y) (texts : List (List ℕ))
    → ((t : List ℕ) → list_any (bytes_eq t) texts ≡ true → f t ≡ g t) → map f texts ≡ map g texts
map_same f g [] same = refl
map_same {Y} f g (t ∷ texts) same =
    ap (λ (y : Y). y ∷ map f texts)
    (same t (or_left (bytes_eq t t) (list_any (bytes_eq t) texts) (itself t)))
    ∙ ap (λ (l : List Y). g t ∷ l)
    (map_same f g texts (λ u there.
    same u (or_right (bytes_eq u t) (list_any (bytes_eq u) texts) there)))

-- ---- filters

pub filter_every : {X : Type 0} (p : X → Bool) (xs : List X) → ((x : X) → p x ≡ true)
    → filter p xs ≡ xs
filter_every p [] all = refl
filter_every {X} p (x ∷ xs) all =
    ap (λ (b : Bool). cond b (x ∷ filter p xs) (filter p xs)) (all x)
    ∙ ap (λ (l : List X). x ∷ l) (filter_every p xs all)

-- what passes one test and then another passes both
pub filter_filter : {X : Type 0} (p q r : X → Bool) → ((x : X) → (q x && p x) ≡ r x)
    → (xs : List X) → filter p (filter q xs) ≡ filter r xs
filter_filter p q r both [] = refl
filter_filter {X} p q r both (x ∷ xs) = cases (q x) (both x) (filter_filter p q r both xs)
  where
    cases : (b : Bool) → (b && p x) ≡ r x → filter p (filter q xs) ≡ filter r xs
        → filter p (cond b (x ∷ filter q xs) (filter q xs))
        ≡ cond (r x) (x ∷ filter r xs) (filter r xs)
    cases true is rest =
        ap (λ (l : List X). cond (p x) (x ∷ l) l) rest
        ∙ ap (λ (c : Bool). cond c (x ∷ filter r xs) (filter r xs)) is
    cases false is rest =
        rest ∙ ap (λ (c : Bool). cond c (x ∷ filter r xs) (filter r xs)) is

-- where none passes, none of those that pass another test does
pub any_less : {X : Type 0} (p q : X → Bool) (xs : List X) → list_any p xs ≡ false
    → list_any p (filter q xs) ≡ false
any_less p q [] none = refl
any_less {X} p q (x ∷ xs) none =
    let parts = or_parts (p x) (list_any p xs) none in
    cases (q x) parts.0 (any_less p q xs parts.1)
  where
    cases : (b : Bool) → p x ≡ false → list_any p (filter q xs) ≡ false
        → list_any p (cond b (x ∷ filter q xs) (filter q xs)) ≡ false
    cases true here rest = or_from (p x) (list_any p (filter q xs)) here rest
    cases false here rest = rest

pub filter_kept : {X : Type 0} (p : X → Bool) (xs : List X) → list_any p xs ≡ false
    → filter (λ x. not (p x)) xs ≡ xs
filter_kept p [] none = refl
filter_kept {X} p (x ∷ xs) none =
    let parts = or_parts (p x) (list_any p xs) none in
    ap (λ (b : Bool). cond (not b) (x ∷ filter (λ y. not (p y)) xs) (filter (λ y. not (p y)) xs))
    parts.0
    ∙ ap (λ (l : List X). x ∷ l) (filter_kept p xs parts.1)

-- ---- the new texts of a list

-- the text isn't in the list
abbrev pub fresh : List (List ℕ) → List ℕ → Bool
fresh texts t = not (list_any (bytes_eq t) texts)

-- each text is one of the new ones
pub any_new : (t : List ℕ) (texts : List (List ℕ))
    → list_any (bytes_eq t) (new_texts texts) ≡ list_any (bytes_eq t) texts
any_new t [] = refl
any_new t (x ∷ texts) = cases (bytes_eq t x) refl (any_new t texts)
  where
    cases : (b : Bool) → bytes_eq t x ≡ b
        → list_any (bytes_eq t) (new_texts texts) ≡ list_any (bytes_eq t) texts
        → (b || list_any (bytes_eq t) (filter (differs x) (new_texts texts)))
        ≡ (b || list_any (bytes_eq t) texts)
    cases true is rest = refl
    cases false is rest =
        any-filter_same (bytes_eq t) (differs x) true
        (λ o same.
        ap not (ap (bytes_eq x) (sym (bytes_same t o same)) ∙ turned x t ∙ is))
        (new_texts texts)
        ∙ rest

both_fresh : (a b : Bool) → (not b && not a) ≡ not (a || b)
both_fresh true true = refl
both_fresh true false = refl
both_fresh false true = refl
both_fresh false false = refl

pub fresh_more : (x : List ℕ) (texts : List (List ℕ)) (t : List ℕ)
    → (fresh texts t && differs x t) ≡ fresh (x ∷ texts) t
fresh_more x texts t =
    ap (λ (b : Bool). not (list_any (bytes_eq t) texts) && not b) (turned x t)
    ∙ both_fresh (bytes_eq t x) (list_any (bytes_eq t) texts)

-- those of two lists are those of the first, and those of the second that aren't in the first
pub new_append : (xs ys : List (List ℕ))
    → new_texts (xs ++ ys) ≡ new_texts xs ++ filter (fresh xs) (new_texts ys)
new_append [] ys = sym (filter_every (fresh []) (new_texts ys) (λ t. refl))
new_append (x ∷ xs) ys =
    ap (λ (l : List (List ℕ)). x ∷ filter (differs x) l) (new_append xs ys)
    ∙ ap (λ (l : List (List ℕ)). x ∷ l)
    (filter-append (differs x) (new_texts xs) (filter (fresh xs) (new_texts ys))
    ∙ ap (λ (l : List (List ℕ)). filter (differs x) (new_texts xs) ++ l)
    (filter_filter (differs x) (fresh xs) (fresh (x ∷ xs)) (fresh_more x xs) (new_texts ys)))

-- ---- lists without repetition

-- no text is one after it
abbrev pub AreApart : List (List ℕ) → Type 0
AreApart [] = ⊤
AreApart (t ∷ texts) = (list_any (bytes_eq t) texts ≡ false) × AreApart texts

pub apart_filter : (q : List ℕ → Bool) (texts : List (List ℕ)) → AreApart texts
    → AreApart (filter q texts)
apart_filter q [] h = tt
apart_filter q (t ∷ texts) h =
    cases (q t) (any_less (bytes_eq t) q texts h.0) (apart_filter q texts h.1)
  where
    cases : (b : Bool) → list_any (bytes_eq t) (filter q texts) ≡ false
        → AreApart (filter q texts) → AreApart (cond b (t ∷ filter q texts) (filter q texts))
    cases true none rest = (none, rest)
    cases false none rest = rest

pub apart_new : (texts : List (List ℕ)) → AreApart (new_texts texts)
apart_new [] = tt
apart_new (x ∷ texts) = (
  any-filter_same (bytes_eq x) (differs x) false (λ o same. ap not same) (new_texts texts),
  apart_filter (differs x) (new_texts texts) (apart_new texts),
)

-- the new ones of such a list are all
pub new_apart : (texts : List (List ℕ)) → AreApart texts → new_texts texts ≡ texts
new_apart [] h = refl
new_apart (t ∷ texts) h =
    ap (λ (l : List (List ℕ)). t ∷ filter (differs t) l) (new_apart texts h.1)
    ∙ ap (λ (l : List (List ℕ)). t ∷ l) (filter_kept (bytes_eq t) texts h.0)

-- a text of such a list isn't among those before it
pub apart_at : (texts : List (List ℕ)) (q : List ℕ) (more : List (List ℕ))
    → AreApart (texts ++ q ∷ more) → list_any (bytes_eq q) texts ≡ false
apart_at [] q more h = refl
apart_at (t ∷ texts) q more h =
    let parts = or_parts (list_any (bytes_eq t) texts) (list_any (bytes_eq t) (q ∷ more))
    (sym (list_any-append (bytes_eq t) texts (q ∷ more)) ∙ h.0) in
    or_from (bytes_eq q t) (list_any (bytes_eq q) texts)
    (turned q t ∙ (or_parts (bytes_eq t q) (list_any (bytes_eq t) more) parts.1).0)
    (apart_at texts q more h.1)

-- what stands in the first part of such a list doesn't in the second
pub apart_sides : (t : List ℕ) (texts more : List (List ℕ)) → AreApart (texts ++ more)
    → list_any (bytes_eq t) texts ≡ true → list_any (bytes_eq t) more ≡ false
apart_sides t [] more h there = false_from_ne_true _ (λ e. false≢true there)
apart_sides t (x ∷ texts) more h there =
    cases (bytes_eq t x) refl there (apart_sides t texts more h.1)
  where
    cases : (b : Bool) → bytes_eq t x ≡ b → (b || list_any (bytes_eq t) texts) ≡ true
        → (list_any (bytes_eq t) texts ≡ true → list_any (bytes_eq t) more ≡ false)
        → list_any (bytes_eq t) more ≡ false
    cases true is any rest =
        ap (λ (o : List ℕ). list_any (bytes_eq o) more) (bytes_same t x is)
        ∙ (or_parts (list_any (bytes_eq x) texts) (list_any (bytes_eq x) more)
        (sym (list_any-append (bytes_eq x) texts more) ∙ h.0)).1
    cases false is any rest = rest any

pub apart_front : (texts more : List (List ℕ)) → AreApart (texts ++ more) → AreApart more
apart_front [] more h = h
apart_front (t ∷ texts) more h = apart_front texts more h.1
