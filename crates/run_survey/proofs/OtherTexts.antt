-- The texts of no kind are those of the kinds after the first n.
use Rattle.std.proofs.Common.{◌≡◌, ℕ, ◌+◌, ◌≤◌, Bool, true, false, cond, not, eqb, ◌&&◌, ◌||◌, List, [], ◌∷◌, ◌++◌, map, filter, length, take, drop, count_by, sum_by, bytes_eq, Option, Some, None, refl, sym, ap, subst, ◌∙◌, arith}
use Rattle.std.specs.List.{list_any, position_or_len}
use Rattle.std.proofs.lemmas.Bool.{and_parts, ne_eqb, not-true, or_parts}
use Rattle.std.proofs.lemmas.List.{drop-map, drop_all, length-map, take-append-drop}
use Rattle.std.proofs.lemmas.List.Folds.{list_any-append}
use Rattle.std.proofs.lemmas.List.Sums.{count_by-le-length, length-filter, sum_by-cons}
use Rattle.std.proofs.lemmas.Map.Views.{any-filter_same}
use Rattle.run_survey.specs.declared.told.Kind.{Kind}
use Rattle.run_survey.specs.declared.told.Others.{Others}
use Rattle.run_survey.specs.Kinds.{differs, is_other, kind_of, new_texts, others_beyond}
use Rattle.run_survey.specs.inner.Merging.{all_kinds, count_of, gathered}
use Rattle.run_survey.proofs.Texts.{AreApart, any_new, apart_front, apart_new, apart_sides, filter_every, filter_filter, fresh, itself, other_text, turned}
use Rattle.run_survey.proofs.Places.{count_either, count_same, count_some}
use Rattle.polis_base.proofs.Lookups.{bytes_same}

-- ---- how many

count_never : {X : Type 0} (xs : List X) → count_by (λ (x : X). false) xs ≡ 0
count_never [] = refl
count_never {X} (x ∷ xs) =
    let rest = count_never xs in
    sum_by-cons (λ (y : X). cond false 1 0) x xs
    ∙ (let e : 0 + count_by (λ (y : X). false) xs ≡ 0 = omega arith in e)

-- of different texts, those that have the one or the other
pub counted_once : (texts kinds : List (List ℕ)) → AreApart kinds
    → sum_by (λ (t : List ℕ). count_by (bytes_eq t) texts) kinds
    ≡ count_by (λ (x : List ℕ). list_any (bytes_eq x) kinds) texts
counted_once texts [] apart = sym (count_never texts)
counted_once texts (t ∷ kinds) apart =
    sum_by-cons (λ (u : List ℕ). count_by (bytes_eq u) texts) t kinds
    ∙ ap (λ (n : ℕ). count_by (bytes_eq t) texts + n) (counted_once texts kinds apart.1)
    ∙ sym
    (count_either (bytes_eq t) (λ (x : List ℕ). list_any (bytes_eq x) kinds)
    (λ (x : List ℕ). list_any (bytes_eq x) (t ∷ kinds))
    (λ x. ap (λ (b : Bool). b || list_any (bytes_eq x) kinds) (turned x t))
    (λ x same. ap (λ (y : List ℕ). list_any (bytes_eq y) kinds) (sym (bytes_same t x same))
    ∙ apart.0) texts)

-- ---- the first

swapped : (a b c : Bool) → ((b || a) || c) ≡ (a || (b || c))
swapped true true c = refl
swapped true false c = refl
swapped false true c = refl
swapped false false c = refl

-- a text that stands in a filtered list passes the filter
passes_there : (q : List ℕ → Bool) (t : List ℕ) (texts : List (List ℕ))
    → list_any (bytes_eq t) (filter q texts) ≡ true → q t ≡ true
passes_there q t texts there =
    (and_parts (q t) (list_any (bytes_eq t) texts)
    (sym
    (any-filter_same (bytes_eq t) q (q t) (λ k same. ap q (sym (bytes_same t k same))) texts)
    ∙ there)).0

stands_at : (t : List ℕ) (kinds more : List (List ℕ))
    → list_any (bytes_eq t) (kinds ++ t ∷ more) ≡ true
stands_at t [] more = ap (λ (b : Bool). b || list_any (bytes_eq t) more) (itself t)
stands_at t (k ∷ kinds) more =
    ap (λ (b : Bool). bytes_eq t k || b) (stands_at t kinds more) ∙ always (bytes_eq t k)
  where
    always : (b : Bool) → (b || true) ≡ true
    always true = refl
    always false = refl

-- what differs from x and isn't in es
skip : (es : List (List ℕ)) (x y : List ℕ) → list_any (bytes_eq x) es ≡ true
    → (differs x y && fresh es y) ≡ fresh es y
skip es x y there = cases (bytes_eq x y) refl
  where
    cases : (b : Bool) → bytes_eq x y ≡ b → (not b && fresh es y) ≡ fresh es y
    cases true is =
        sym (ap not (ap (λ (z : List ℕ). list_any (bytes_eq z) es) (sym (bytes_same x y is))
        ∙ there))
    cases false is = refl

neither : (a b : Bool) → (not a && not b) ≡ not (a || b)
neither true b = refl
neither false b = refl

fresh_after : (es : List (List ℕ)) (x y : List ℕ) → (differs x y && fresh es y) ≡ fresh (x ∷ es) y
fresh_after es x y =
    ap (λ (b : Bool). not b && fresh es y) (turned x y)
    ∙ neither (bytes_eq y x) (list_any (bytes_eq y) es)

-- the text is neither one of es nor of these kinds
abbrev beyond : List (List ℕ) → List (List ℕ) → List ℕ → Bool
beyond es kinds x = not (list_any (bytes_eq x) es || list_any (bytes_eq x) kinds)

-- the first text that is neither is the first that is the next kind
abbrev Firsts : List (List ℕ) → Type 0
Firsts texts =
    (es kinds : List (List ℕ)) (t : List ℕ) (more : List (List ℕ))
    → filter (fresh es) (new_texts texts) ≡ kinds ++ t ∷ more
    → position_or_len (beyond es kinds) texts ≡ position_or_len (bytes_eq t) texts

module _ (x : List ℕ) (texts es : List (List ℕ)) (t : List ℕ) (more : List (List ℕ))
    (rest : Firsts texts) where
  abbrev left : List (List ℕ)
  left = filter (fresh es) (filter (differs x) (new_texts texts))

  known_next : (kinds : List (List ℕ)) → list_any (bytes_eq x) es ≡ true
      → left ≡ kinds ++ t ∷ more
      → position_or_len (beyond es kinds) (x ∷ texts) ≡ position_or_len (bytes_eq t) (x ∷ texts)
  known_next kinds known all =
      let same = filter_filter (fresh es) (differs x) (fresh es) (λ y. skip es x y known)
      (new_texts texts) in
      let passes = passes_there (fresh es) t (filter (differs x) (new_texts texts))
      (ap (list_any (bytes_eq t)) all ∙ stands_at t kinds more) in
      let apart = other_text t x es (not-true (list_any (bytes_eq t) es) passes) known in
      ap (λ (b : Bool). cond (not (not (b || list_any (bytes_eq x) kinds)))
      (1 + position_or_len (beyond es kinds) texts) 0) known
      ∙ ap (λ (n : ℕ). 1 + n) (rest es kinds t more (sym same ∙ all))
      ∙ sym (ap (λ (b : Bool). cond (not b) (1 + position_or_len (bytes_eq t) texts) 0) apart)

  new_next : (kinds : List (List ℕ)) → list_any (bytes_eq x) es ≡ false
      → x ∷ left ≡ kinds ++ t ∷ more
      → position_or_len (beyond es kinds) (x ∷ texts) ≡ position_or_len (bytes_eq t) (x ∷ texts)
  new_next [] new all =
      let same : x ≡ t = cc in
      let here : bytes_eq t x ≡ true = ap (bytes_eq t) same ∙ itself t in
      ap (λ (b : Bool). cond (not (not (b || false)))
      (1 + position_or_len (beyond es []) texts) 0) new
      ∙ sym (ap (λ (b : Bool). cond (not b) (1 + position_or_len (bytes_eq t) texts) 0) here)
  new_next (k ∷ kinds) new all =
      let same : x ≡ k = cc in
      let tail : left ≡ kinds ++ t ∷ more = cc in
      let both = filter_filter (fresh es) (differs x) (fresh (x ∷ es)) (fresh_after es x)
      (new_texts texts) in
      let is = sym both ∙ tail in
      let passes = passes_there (fresh (x ∷ es)) t (new_texts texts)
      (ap (list_any (bytes_eq t)) is ∙ stands_at t kinds more) in
      let apart : bytes_eq t x ≡ false =
      (or_parts (bytes_eq t x) (list_any (bytes_eq t) es)
      (not-true (list_any (bytes_eq t) (x ∷ es)) passes)).0 in
      let here : bytes_eq x k ≡ true = ap (bytes_eq x) (sym same) ∙ itself x in
      let alike : (y : List ℕ) → beyond es (k ∷ kinds) y ≡ beyond (x ∷ es) kinds y =
      λ y. ap (λ (z : List ℕ). beyond es (z ∷ kinds) y) (sym same)
      ∙ ap not (sym (swapped (list_any (bytes_eq y) es) (bytes_eq y x)
      (list_any (bytes_eq y) kinds))) in
      ap (λ (b : Bool). cond (not (not (b || list_any (bytes_eq x) (k ∷ kinds))))
      (1 + position_or_len (beyond es (k ∷ kinds)) texts) 0) new
      ∙ ap (λ (b : Bool). cond (not (not (b || list_any (bytes_eq x) kinds)))
      (1 + position_or_len (beyond es (k ∷ kinds)) texts) 0) here
      ∙ ap (λ (n : ℕ). 1 + n)
      (ap (λ (f : List ℕ → Bool). position_or_len f texts) (λ i y. alike y i)
      ∙ rest (x ∷ es) kinds t more is)
      ∙ sym (ap (λ (b : Bool). cond (not b) (1 + position_or_len (bytes_eq t) texts) 0) apart)

  next_text : (kinds : List (List ℕ)) (b : Bool) → list_any (bytes_eq x) es ≡ b
      → cond (not b) (x ∷ left) left ≡ kinds ++ t ∷ more
      → position_or_len (beyond es kinds) (x ∷ texts) ≡ position_or_len (bytes_eq t) (x ∷ texts)
  next_text kinds true known all = known_next kinds known all
  next_text kinds false new all = new_next kinds new all

firsts : (texts : List (List ℕ)) → Firsts texts
firsts [] es kinds t more is = refl
firsts (x ∷ texts) es kinds t more is =
    next_text x texts es t more (firsts texts) kinds (list_any (bytes_eq x) es) refl is

first_other : (texts kinds : List (List ℕ)) (t : List ℕ) (more : List (List ℕ))
    → new_texts texts ≡ kinds ++ t ∷ more
    → position_or_len (is_other kinds) texts ≡ position_or_len (bytes_eq t) texts
first_other texts kinds t more is =
    firsts texts [] kinds t more
    (filter_every (fresh []) (new_texts texts) (λ y. refl) ∙ is)

-- ---- the others

count_others : (texts kinds more : List (List ℕ)) → new_texts texts ≡ kinds ++ more
    → count_by (is_other kinds) texts ≡ sum_by (λ (t : List ℕ). count_by (bytes_eq t) texts) more
count_others texts kinds more is =
    let apart = subst AreApart is (apart_new texts) in
    count_same (is_other kinds) (λ (x : List ℕ). list_any (bytes_eq x) more) texts
    (λ x there.
    sides (list_any (bytes_eq x) kinds) (list_any (bytes_eq x) more)
    (sym (list_any-append (bytes_eq x) kinds more)
    ∙ ap (list_any (bytes_eq x)) (sym is) ∙ any_new x texts ∙ there)
    (apart_sides x kinds more apart))
    ∙ sym (counted_once texts more (apart_front kinds more apart))
  where
    sides : (a b : Bool) → (a || b) ≡ true → (a ≡ true → b ≡ false) → not a ≡ b
    sides true b any none = sym (none refl)
    sides false b any none = sym any

sum_mapped : (f : List ℕ → Kind) (texts : List (List ℕ))
    → sum_by count_of (map f texts) ≡ sum_by (λ (t : List ℕ). (f t).count) texts
sum_mapped f [] = refl
sum_mapped f (t ∷ texts) =
    sum_by-cons count_of (f t) (map f texts)
    ∙ ap (λ (n : ℕ). (f t).count + n) (sum_mapped f texts)
    ∙ sym (sum_by-cons (λ (u : List ℕ). (f u).count) t texts)

abbrev others_from : ℕ → ℕ → Option Others
others_from count seed =
    cond (eqb count 0) None (Some (record { count = count; seed = seed }))

others_are : (first : ℕ) (texts kinds more : List (List ℕ)) → new_texts texts ≡ kinds ++ more
    → others_from (count_by (is_other kinds) texts)
    (first + position_or_len (is_other kinds) texts)
    ≡ gathered (map (kind_of first texts) more)
others_are first texts kinds [] is =
    let none = count_others texts kinds [] is in
    ap (λ (n : ℕ). others_from n (first + position_or_len (is_other kinds) texts)) none
others_are first texts kinds (t ∷ more) is =
    let count = count_others texts kinds (t ∷ more) is in
    let sum = sum_mapped (kind_of first texts) (t ∷ more) in
    let same : count_by (is_other kinds) texts
    ≡ sum_by count_of (map (kind_of first texts) (t ∷ more)) =
    count ∙ sym sum in
    let here = sum_by-cons (λ (u : List ℕ). count_by (bytes_eq u) texts) t more in
    let there = count_some (bytes_eq t) texts
    (sym (any_new t texts) ∙ ap (list_any (bytes_eq t)) is ∙ stands_at t kinds more) in
    let some : eqb (sum_by count_of (map (kind_of first texts) (t ∷ more))) 0 ≡ false =
    ne_eqb (sum_by count_of (map (kind_of first texts) (t ∷ more))) 0 (λ e. absurd (omega arith))
    in
    let seed = first + position_or_len (bytes_eq t) texts in
    let sum_is = sum_by count_of (map (kind_of first texts) (t ∷ more)) in
    ap (λ (n : ℕ). others_from n (first + position_or_len (is_other kinds) texts)) same
    ∙ ap (λ (n : ℕ). others_from sum_is (first + n)) (first_other texts kinds t more is)
    ∙ ap (λ (b : Bool). let o : Option Others =
    cond b None (Some (record { count = sum_is; seed = seed })) in o) some

pub others_gathered : (n first : ℕ) (texts : List (List ℕ))
    → others_beyond n first texts ≡ gathered (drop n (all_kinds first texts))
others_gathered n first texts =
    others_are first texts (take n (new_texts texts)) (drop n (new_texts texts))
    (sym (take-append-drop n (new_texts texts)))
    ∙ ap gathered (sym (drop-map (kind_of first texts) n (new_texts texts)))

-- ---- how many kinds there are

pub new_few : (texts : List (List ℕ)) → length (new_texts texts) ≤ length texts
new_few [] = omega arith
new_few (x ∷ texts) =
    let rest = new_few texts in
    let some = length-filter (differs x) (new_texts texts) in
    let most = count_by-le-length (differs x) (new_texts texts) in
    omega arith

-- so few runs have no others
pub none_beyond : (n first : ℕ) (texts : List (List ℕ)) → length texts ≤ n
    → others_beyond n first texts ≡ None
none_beyond n first texts few =
    let kinds = new_few texts in
    let size = length-map (new_texts texts) (kind_of first texts) in
    others_gathered n first texts
    ∙ ap gathered (drop_all n (all_kinds first texts) (omega arith))

-- all kinds together have each run once
pub kinds_count : (first : ℕ) (texts : List (List ℕ))
    → sum_by count_of (all_kinds first texts) ≤ length texts
kinds_count first texts =
    let sum = sum_mapped (kind_of first texts) (new_texts texts) in
    let once = counted_once texts (new_texts texts) (apart_new texts) in
    let most = count_by-le-length (λ (x : List ℕ). list_any (bytes_eq x) (new_texts texts)) texts
    in
    omega arith
