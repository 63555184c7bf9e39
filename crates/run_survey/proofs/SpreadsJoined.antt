-- Numbers of runs, over some and over those after them.
use Rattle.std.proofs.Common.{◌≡◌, ◌⊎◌, ℕ, ◌+◌, ◌<◌, ◌≤◌, Bool, true, false, cond, eqb, nat_lt, min, max, fold, List, [], ◌∷◌, ◌++◌, map, length, count_by, get_or, slice_get, slice_index, option_map, Some, refl, sym, ap, subst, ◌∙◌, inl, inr, ⊎_elim, arith}
use Rattle.std.specs.List.{list_any, position_or_len}
use Rattle.std.proofs.lemmas.Bool.{cases_lt, eq-eqb, le-ltb, lt-ltb, ne_eqb, or_from, or_left, or_right}
use Rattle.std.proofs.lemmas.List.{length-map, map-append}
use Rattle.std.proofs.lemmas.List.Elements.{All-append, All-cons, All-nil, All-weaker}
use Rattle.std.proofs.lemmas.List.Sums.{fold-append, sum_by-append}
use Rattle.std.proofs.lemmas.Option.{same_Some, slice_get-get_or, slice_get-map, slice_get_within}
use Rattle.run_survey.specs.declared.told.Spread.{Spread}
use Rattle.run_survey.specs.Spreads.{AreSpreads, column, greatest, least, spread_of}
use Rattle.run_survey.specs.inner.Joining.{AreJoined, joined}
use Rattle.run_survey.proofs.Places.{position_in, position_out}

-- ---- the greatest and the least

max_fold : (a : ℕ) (xs : List ℕ) → fold max a xs ≡ max a (greatest xs)
max_fold a [] = let e : a ≡ max a 0 = omega arith in e
max_fold a (x ∷ xs) =
    let one = max_fold (max a x) xs in
    let other = max_fold (max 0 x) xs in
    omega arith

greatest_next : (x : ℕ) (xs : List ℕ) → greatest (x ∷ xs) ≡ max x (greatest xs)
greatest_next x xs = let rest = max_fold (max 0 x) xs in omega arith

greatest_both : (xs ys : List ℕ) → greatest (xs ++ ys) ≡ max (greatest xs) (greatest ys)
greatest_both xs ys = fold-append max 0 xs ys ∙ max_fold (greatest xs) ys

-- no number is above the greatest
none_above : (m : ℕ) (xs : List ℕ) → greatest xs < m → list_any (λ n. eqb n m) xs ≡ false
none_above m [] low = refl
none_above m (x ∷ xs) low =
    let most = greatest_next x xs in
    or_from (eqb x m) (list_any (λ n. eqb n m) xs) (ne_eqb x m (λ e. absurd (omega arith)))
    (none_above m xs (omega arith))

-- and one is the greatest
greatest_there : (xs : List ℕ) → 0 < length xs → list_any (λ n. eqb n (greatest xs)) xs ≡ true
greatest_there [] some = absurd (omega arith)
greatest_there (x ∷ xs) some = cases (cases_lt x (greatest xs)) (greatest_there xs)
  where
    cases : ((x < greatest xs) ⊎ (greatest xs ≤ x))
        → (0 < length xs → list_any (λ n. eqb n (greatest xs)) xs ≡ true)
        → list_any (λ n. eqb n (greatest (x ∷ xs))) (x ∷ xs) ≡ true
    cases (inr high) rest =
        let most = greatest_next x xs in
        or_left (eqb x (greatest (x ∷ xs))) (list_any (λ n. eqb n (greatest (x ∷ xs))) xs)
        (eq-eqb x (greatest (x ∷ xs)) (omega arith))
    cases (inl low) rest =
        let most = greatest_next x xs in
        let same : greatest (x ∷ xs) ≡ greatest xs = omega arith in
        or_right (eqb x (greatest (x ∷ xs))) (list_any (λ n. eqb n (greatest (x ∷ xs))) xs)
        (ap (λ (m : ℕ). list_any (λ n. eqb n m) xs) same ∙ rest (some_there xs low))
      where
        some_there : (ys : List ℕ) → x < greatest ys → 0 < length ys
        some_there [] h = absurd (omega arith)
        some_there (y ∷ ys) h = omega arith

min_fold : (a b : ℕ) (xs : List ℕ) → fold min (min a b) xs ≡ min a (fold min b xs)
min_fold a b [] = refl
min_fold a b (x ∷ xs) =
    ap (λ (n : ℕ). fold min n xs) (let e : min (min a b) x ≡ min a (min b x) = omega arith in e)
    ∙ min_fold a (min b x) xs

least_both : (xs ys : List ℕ) → 0 < length xs → 0 < length ys
    → least (xs ++ ys) ≡ min (least xs) (least ys)
least_both [] ys some other = absurd (omega arith)
least_both (x ∷ xs) [] some other = absurd (omega arith)
least_both (x ∷ xs) (y ∷ ys) some other =
    fold-append min x xs (y ∷ ys) ∙ min_fold (fold min x xs) y ys

-- ---- spreads

abbrev spread : ℕ → ℕ → ℕ → ℕ → Spread
spread least most seed runs =
    record { least = least; most = most; seed = seed; runs = runs }

same_spread : {a b c d e f g h : ℕ} → a ≡ e → b ≡ f → c ≡ g → d ≡ h
    → spread a b c d ≡ spread e f g h
same_spread p q r s = λ i. spread (p i) (q i) (r i) (s i)

module _ (first : ℕ) (xs ys : List ℕ) (some : 0 < length xs) (other : 0 < length ys) where
  runs_both : count_by (nat_lt 0) xs + count_by (nat_lt 0) ys ≡ count_by (nat_lt 0) (xs ++ ys)
  runs_both = sym (sum_by-append (λ (n : ℕ). cond (nat_lt 0 n) 1 0) xs ys)

  -- the greatest comes of the later runs
  later : greatest xs < greatest ys
      → joined (spread_of first xs) (spread_of (first + length xs) ys) ≡ spread_of first (xs ++ ys)
  later low =
      let test = lt-ltb (greatest xs) (greatest ys) low in
      let both = greatest_both xs ys in
      let most : greatest ys ≡ greatest (xs ++ ys) = omega arith in
      let place = position_out (λ n. eqb n (greatest ys)) xs ys (none_above (greatest ys) xs low)
      in
      same_spread (sym (least_both xs ys some other))
      (ap (λ (b : Bool). cond b (greatest ys) (greatest xs)) test ∙ most)
      (ap (λ (b : Bool).
      cond b (first + length xs + position_or_len (λ n. eqb n (greatest ys)) ys)
      (first + position_or_len (λ n. eqb n (greatest xs)) xs)) test
      ∙ (let e : first + length xs + position_or_len (λ n. eqb n (greatest ys)) ys
      ≡ first + position_or_len (λ n. eqb n (greatest ys)) (xs ++ ys) = omega arith in e)
      ∙ ap (λ (m : ℕ). first + position_or_len (λ n. eqb n m) (xs ++ ys)) most)
      runs_both

  -- it came of the earlier ones
  earlier : greatest ys ≤ greatest xs
      → joined (spread_of first xs) (spread_of (first + length xs) ys) ≡ spread_of first (xs ++ ys)
  earlier high =
      let test = le-ltb (greatest xs) (greatest ys) high in
      let both = greatest_both xs ys in
      let most : greatest xs ≡ greatest (xs ++ ys) = omega arith in
      let place = position_in (λ n. eqb n (greatest xs)) xs ys (greatest_there xs some) in
      same_spread (sym (least_both xs ys some other))
      (ap (λ (b : Bool). cond b (greatest ys) (greatest xs)) test ∙ most)
      (ap (λ (b : Bool).
      cond b (first + length xs + position_or_len (λ n. eqb n (greatest ys)) ys)
      (first + position_or_len (λ n. eqb n (greatest xs)) xs)) test
      ∙ ap (λ (n : ℕ). first + n) (sym place)
      ∙ ap (λ (m : ℕ). first + position_or_len (λ n. eqb n m) (xs ++ ys)) most)
      runs_both

  pub joined_spread :
      joined (spread_of first xs) (spread_of (first + length xs) ys) ≡ spread_of first (xs ++ ys)
  joined_spread = ⊎_elim later earlier (cases_lt (greatest xs) (greatest ys))

-- ---- spreads of lists

-- the numbers of one run
pub spreads_one : (seed : ℕ) (numbers : List ℕ) (spreads : List Spread)
    → spreads ≡ map (λ (n : ℕ). spread_of seed (n ∷ [])) numbers
    → AreSpreads seed (numbers ∷ []) spreads
spreads_one seed numbers spreads is = record {
  long = All-cons (λ (l : List ℕ). length l ≡ length spreads) numbers []
      (sym (ap (λ (l : List Spread). length l) is
      ∙ length-map numbers (λ (n : ℕ). spread_of seed (n ∷ []))))
      (All-nil (λ (l : List ℕ). length l ≡ length spreads));
  each = λ place s at.
      let there : slice_get (map (λ (n : ℕ). spread_of seed (n ∷ [])) numbers) place ≡ Some s =
      subst (λ (l : List Spread). slice_get l place ≡ Some s) is at in
      let low = slice_get_within (map (λ (n : ℕ). spread_of seed (n ∷ [])) numbers) place s there
      in
      let size = length-map numbers (λ (n : ℕ). spread_of seed (n ∷ [])) in
      let one = slice_get-get_or numbers place 0 (omega arith) in
      same_Some s (spread_of seed (get_or numbers place 0 ∷ []))
      (sym there
      ∙ slice_get-map (λ (n : ℕ). spread_of seed (n ∷ [])) numbers place
      ∙ ap (option_map (λ (n : ℕ). spread_of seed (n ∷ []))) one);
}

-- those of the runs after them joined
pub joined_spreads : (first : ℕ) (xs ys : List (List ℕ)) (one next new : List Spread)
    → 0 < length xs → 0 < length ys → length one ≡ length next → AreJoined one next new
    → AreSpreads first xs one → AreSpreads (first + length xs) ys next
    → AreSpreads first (xs ++ ys) new
joined_spreads first xs ys one next new some other alike joins before after = record {
  long = All-append (λ (l : List ℕ). length l ≡ length new) xs ys
      (All-weaker (λ (l : List ℕ). length l ≡ length one) (λ (l : List ℕ). length l ≡ length new)
      (λ l size. size ∙ sym joins.long) xs before.long)
      (All-weaker (λ (l : List ℕ). length l ≡ length next) (λ (l : List ℕ). length l ≡ length new)
      (λ l size. size ∙ sym alike ∙ sym joins.long) ys after.long);
  each = λ place s at.
      let low = slice_get_within new place s at in
      let size = joins.long in
      let a : Spread = get_or one place s in
      let b : Spread = get_or next place s in
      let at_one : slice_get one place ≡ Some a = slice_get-get_or one place s (omega arith) in
      let at_next : slice_get next place ≡ Some b = slice_get-get_or next place s (omega arith) in
      let many = length-map xs (λ (l : List ℕ). slice_index l place) in
      let more = length-map ys (λ (l : List ℕ). slice_index l place) in
      same_Some s (joined a b) (sym at ∙ joins.each place a b at_one at_next)
      ∙ ap (λ (t : Spread). joined t b) (before.each place a at_one)
      ∙ ap (joined (spread_of first (column place xs))) (after.each place b at_next)
      ∙ ap (λ (n : ℕ).
      joined (spread_of first (column place xs)) (spread_of (first + n) (column place ys)))
      (sym many)
      ∙ joined_spread first (column place xs) (column place ys) (omega arith) (omega arith)
      ∙ ap (spread_of first) (sym (map-append (λ (l : List ℕ). slice_index l place) xs ys));
}
