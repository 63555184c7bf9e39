-- All kinds of two lists of runs are those of the first with those of the second merged.
use Rattle.std.proofs.Common.{◌≡◌, ℕ, ◌+◌, Bool, true, false, cond, not, ◌||◌, List, [], ◌∷◌, ◌++◌, map, filter, fold, length, count_by, bytes_eq, refl, sym, ap, subst, ◌∙◌, append_assoc, append-nil, add-zero, arith}
use Rattle.std.specs.List.{list_any, position_or_len}
use Rattle.std.proofs.lemmas.Bool.{false≢true, or_from, or_parts, or_right}
use Rattle.std.proofs.lemmas.List.{map-append}
use Rattle.std.proofs.lemmas.List.Folds.{list_any-append}
use Rattle.std.proofs.lemmas.List.Sums.{sum_by-append}
use Rattle.run_survey.specs.declared.told.Kind.{Kind}
use Rattle.run_survey.specs.Kinds.{kind_of, new_texts}
use Rattle.run_survey.specs.inner.Merging.{all_kinds, all_merged, has_outputs, merged, more}
use Rattle.run_survey.proofs.Texts.{AreApart, any_new, apart_at, apart_new, fresh, itself, map_same, new_apart, new_append, other_text, turned}
use Rattle.run_survey.proofs.Places.{count_none, position_in, position_out}
use Rattle.polis_base.proofs.Bools.{or_none}
use Rattle.polis_base.proofs.Lookups.{bytes_same}

abbrev pub kind : List ℕ → ℕ → ℕ → Kind
kind outputs count seed = record { outputs = outputs; count = count; seed = seed }

-- ---- one kind more

-- a kind of a text that is in the list
merged_in : (f g : List ℕ → Kind) (texts : List (List ℕ)) (next : Kind) → AreApart texts
    → list_any (bytes_eq next.outputs) texts ≡ true
    → ((t : List ℕ) → (f t).outputs ≡ t)
    → ((t : List ℕ) → bytes_eq next.outputs t ≡ false → f t ≡ g t)
    → more (f next.outputs) next.count ≡ g next.outputs
    → merged (map f texts) next ≡ map g texts
merged_in f g [] next apart there own same here = absurd (false≢true there)
merged_in f g (t ∷ texts) next apart there own same here =
    ap (λ (o : List ℕ). cond (bytes_eq o next.outputs) (more (f t) next.count ∷ map f texts)
    (f t ∷ merged (map f texts) next)) (own t)
    ∙ cases (bytes_eq t next.outputs) refl
    (λ later. merged_in f g texts next apart.1 later own same here)
  where
    cases : (b : Bool) → bytes_eq t next.outputs ≡ b
        → (list_any (bytes_eq next.outputs) texts ≡ true
        → merged (map f texts) next ≡ map g texts)
        → cond b (more (f t) next.count ∷ map f texts) (f t ∷ merged (map f texts) next)
        ≡ g t ∷ map g texts
    cases true is rest =
        let e : t ≡ next.outputs = bytes_same t next.outputs is in
        let none : list_any (bytes_eq next.outputs) texts ≡ false =
        ap (λ (x : List ℕ). list_any (bytes_eq x) texts) (sym e) ∙ apart.0 in
        ap (λ (k : Kind). k ∷ map f texts)
        (ap (λ (x : List ℕ). more (f x) next.count) e ∙ here ∙ ap g (sym e))
        ∙ ap (λ (l : List Kind). g t ∷ l)
        (map_same f g texts (λ u known. same u (other_text next.outputs u texts none known)))
    cases false is rest =
        let here_not : bytes_eq next.outputs t ≡ false = turned next.outputs t ∙ is in
        ap (λ (k : Kind). k ∷ merged (map f texts) next) (same t here_not)
        ∙ ap (λ (l : List Kind). g t ∷ l)
        (rest
        (ap (λ (b : Bool). b || list_any (bytes_eq next.outputs) texts) (sym here_not) ∙ there))

-- a kind of a text that isn't
pub merged_out : (kinds : List Kind) (next : Kind)
    → list_any (has_outputs next.outputs) kinds ≡ false → merged kinds next ≡ kinds ++ next ∷ []
merged_out [] next none = refl
merged_out (k ∷ kinds) next none =
    let parts = or_parts (has_outputs next.outputs k) (list_any (has_outputs next.outputs) kinds)
    none in
    ap (λ (b : Bool). cond b (more k next.count ∷ kinds) (k ∷ merged kinds next)) parts.0
    ∙ ap (λ (l : List Kind). k ∷ l) (merged_out kinds next parts.1)

lacks_mapped : (f : List ℕ → Kind) (texts : List (List ℕ)) (q : List ℕ)
    → ((t : List ℕ) → (f t).outputs ≡ t) → list_any (bytes_eq q) texts ≡ false
    → list_any (has_outputs q) (map f texts) ≡ false
lacks_mapped f [] q own none = refl
lacks_mapped f (t ∷ texts) q own none =
    let parts = or_parts (bytes_eq q t) (list_any (bytes_eq q) texts) none in
    or_from (has_outputs q (f t)) (list_any (has_outputs q) (map f texts))
    (ap (λ (o : List ℕ). bytes_eq o q) (own t) ∙ turned t q ∙ parts.0)
    (lacks_mapped f texts q own parts.1)

-- ---- the kinds of runs xs, and of those of ys that have one of some texts

abbrev with_flag : ℕ → List (List ℕ) → List (List ℕ) → Bool → List ℕ → Kind
with_flag first xs ys flag text =
    kind text (count_by (bytes_eq text) xs + cond flag (count_by (bytes_eq text) ys) 0)
    (first + position_or_len (bytes_eq text) (xs ++ ys))

abbrev kind_at : ℕ → List (List ℕ) → List (List ℕ) → List (List ℕ) → List ℕ → Kind
kind_at first xs ys texts text = with_flag first xs ys (list_any (bytes_eq text) texts) text

module _ (first : ℕ) (xs ys : List (List ℕ)) where
  -- a text more, which is another
  same_flag : (texts : List (List ℕ)) (q t : List ℕ) → bytes_eq q t ≡ false
      → kind_at first xs ys texts t ≡ kind_at first xs ys (texts ++ q ∷ []) t
  same_flag texts q t apart =
      ap (λ (b : Bool). with_flag first xs ys b t)
      (sym
      (list_any-append (bytes_eq t) texts (q ∷ [])
      ∙ ap (λ (b : Bool). list_any (bytes_eq t) texts || (b || false)) (turned t q ∙ apart)
      ∙ or_none (list_any (bytes_eq t) texts)))

  now_flagged : (texts : List (List ℕ)) (q : List ℕ)
      → list_any (bytes_eq q) (texts ++ q ∷ []) ≡ true
  now_flagged texts q =
      list_any-append (bytes_eq q) texts (q ∷ [])
      ∙ or_right (list_any (bytes_eq q) texts) (bytes_eq q q || false)
      (or_none (bytes_eq q q) ∙ itself q)

  -- a kind of ys whose text is in xs or was taken before
  flag_counts : (texts : List (List ℕ)) (q : List ℕ) → list_any (bytes_eq q) texts ≡ false
      → more (kind_at first xs ys texts q) (count_by (bytes_eq q) ys)
      ≡ kind_at first xs ys (texts ++ q ∷ []) q
  flag_counts texts q none =
      let seed = first + position_or_len (bytes_eq q) (xs ++ ys) in
      let count = count_by (bytes_eq q) ys in
      ap (λ (b : Bool). kind q (count_by (bytes_eq q) xs + cond b count 0 + count) seed) none
      ∙ ap (λ (n : ℕ). kind q n seed)
      (let e : count_by (bytes_eq q) xs + 0 + count ≡ count_by (bytes_eq q) xs + count =
      omega arith in e)
      ∙ ap (λ (b : Bool). with_flag first xs ys b q) (sym (now_flagged texts q))

  -- and one whose text isn't
  flag_new : (texts : List (List ℕ)) (q : List ℕ) → list_any (bytes_eq q) xs ≡ false
      → kind_of (first + length xs) ys q ≡ kind_at first xs ys (texts ++ q ∷ []) q
  flag_new texts q none =
      let count = count_by (bytes_eq q) ys in
      let nowhere = count_none (bytes_eq q) xs none in
      let place = position_out (bytes_eq q) xs ys none in
      ap (λ (n : ℕ). kind q n (first + length xs + position_or_len (bytes_eq q) ys))
      (let e : count ≡ count_by (bytes_eq q) xs + count = omega arith in e)
      ∙ ap (λ (n : ℕ). kind q (count_by (bytes_eq q) xs + count) n)
      (let e : first + length xs + position_or_len (bytes_eq q) ys
      ≡ first + position_or_len (bytes_eq q) (xs ++ ys) =
      omega arith in e)
      ∙ ap (λ (b : Bool). with_flag first xs ys b q) (sym (now_flagged texts q))

  -- the kinds so far
  abbrev kinds_at : List (List ℕ) → List Kind
  kinds_at texts = map (kind_at first xs ys texts) (new_texts (xs ++ texts))

  one_merged : (texts : List (List ℕ)) (q : List ℕ) → list_any (bytes_eq q) texts ≡ false
      → merged (kinds_at texts) (kind_of (first + length xs) ys q) ≡ kinds_at (texts ++ q ∷ [])
  one_merged texts q none =
      cases (list_any (bytes_eq q) (xs ++ texts)) refl
      ∙ ap (map g)
      (sym (new_append (xs ++ texts) (q ∷ []))
      ∙ ap new_texts (append_assoc xs texts (q ∷ [])))
    where
      f : List ℕ → Kind
      f = kind_at first xs ys texts

      g : List ℕ → Kind
      g = kind_at first xs ys (texts ++ q ∷ [])

      next : Kind
      next = kind_of (first + length xs) ys q

      cases : (b : Bool) → list_any (bytes_eq q) (xs ++ texts) ≡ b
          → merged (map f (new_texts (xs ++ texts))) next
          ≡ map g (new_texts (xs ++ texts)
          ++ cond (not b) (q ∷ []) [])
      cases true is =
          merged_in f g (new_texts (xs ++ texts)) next (apart_new (xs ++ texts))
          (any_new q (xs ++ texts) ∙ is) (λ t. refl) (same_flag texts q)
          (flag_counts texts q none)
          ∙ ap (map g) (sym (append-nil (new_texts (xs ++ texts))))
      cases false is =
          let lacks = any_new q (xs ++ texts) ∙ is in
          let parts = or_parts (list_any (bytes_eq q) xs) (list_any (bytes_eq q) texts)
          (sym (list_any-append (bytes_eq q) xs texts) ∙ is) in
          merged_out (map f (new_texts (xs ++ texts))) next
          (lacks_mapped f (new_texts (xs ++ texts)) q (λ t. refl) lacks)
          ∙ ap (λ (l : List Kind). l ++ next ∷ [])
          (map_same f g (new_texts (xs ++ texts)) (λ t known.
          same_flag texts q t (other_text q t (new_texts (xs ++ texts)) lacks known)))
          ∙ ap (λ (k : Kind). map g (new_texts (xs ++ texts)) ++ k ∷ [])
          (flag_new texts q parts.0)
          ∙ sym (map-append g (new_texts (xs ++ texts)) (q ∷ []))

  -- all kinds of some of the texts of ys, one after another
  merged_on : (texts rest : List (List ℕ)) → AreApart (texts ++ rest)
      → fold merged (kinds_at texts) (map (kind_of (first + length xs) ys) rest)
      ≡ kinds_at (texts ++ rest)
  merged_on texts [] apart = ap kinds_at (sym (append-nil texts))
  merged_on texts (q ∷ rest) apart =
      ap (λ (k : List Kind). fold merged k (map (kind_of (first + length xs) ys) rest))
      (one_merged texts q (apart_at texts q rest apart))
      ∙ merged_on (texts ++ q ∷ []) rest
      (subst AreApart (sym (append_assoc texts (q ∷ []) rest)) apart)
      ∙ ap kinds_at (append_assoc texts (q ∷ []) rest)

  begin : kinds_at [] ≡ all_kinds first xs
  begin =
      ap (λ (l : List (List ℕ)). map (kind_at first xs ys []) (new_texts l)) (append-nil xs)
      ∙ map_same (kind_at first xs ys []) (kind_of first xs) (new_texts xs) (λ t known.
      ap (λ (n : ℕ). kind t n (first + position_or_len (bytes_eq t) (xs ++ ys)))
      (add-zero (count_by (bytes_eq t) xs))
      ∙ ap (λ (n : ℕ). kind t (count_by (bytes_eq t) xs) (first + n))
      (position_in (bytes_eq t) xs ys (sym (any_new t xs) ∙ known)))

  whole_count : (t : List ℕ) (b : Bool) → list_any (bytes_eq t) ys ≡ b
      → count_by (bytes_eq t) xs + cond b (count_by (bytes_eq t) ys) 0
      ≡ count_by (bytes_eq t) (xs ++ ys)
  whole_count t true is = sym (sum_by-append (λ (x : List ℕ). cond (bytes_eq t x) 1 0) xs ys)
  whole_count t false is =
      let none = count_none (bytes_eq t) ys is in
      let both : count_by (bytes_eq t) (xs ++ ys)
      ≡ count_by (bytes_eq t) xs + count_by (bytes_eq t) ys =
      sum_by-append (λ (x : List ℕ). cond (bytes_eq t x) 1 0) xs ys in
      omega arith

  end : kinds_at (new_texts ys) ≡ all_kinds first (xs ++ ys)
  end =
      ap (map (kind_at first xs ys (new_texts ys)))
      (new_append xs (new_texts ys)
      ∙ ap (λ (l : List (List ℕ)). new_texts xs ++ filter (fresh xs) l)
      (new_apart (new_texts ys) (apart_new ys))
      ∙ sym (new_append xs ys))
      ∙ map_same (kind_at first xs ys (new_texts ys)) (kind_of first (xs ++ ys))
      (new_texts (xs ++ ys)) (λ t known.
      ap (λ (n : ℕ). kind t n (first + position_or_len (bytes_eq t) (xs ++ ys)))
      (ap (λ (b : Bool). count_by (bytes_eq t) xs + cond b (count_by (bytes_eq t) ys) 0)
      (any_new t ys)
      ∙ whole_count t (list_any (bytes_eq t) ys) refl))

  pub joined_kinds :
      all_merged (all_kinds first xs) (all_kinds (first + length xs) ys)
      ≡ all_kinds first (xs ++ ys)
  joined_kinds =
      ap (λ (k : List Kind). fold merged k (all_kinds (first + length xs) ys)) (sym begin)
      ∙ merged_on [] (new_texts ys) (apart_new ys)
      ∙ end
