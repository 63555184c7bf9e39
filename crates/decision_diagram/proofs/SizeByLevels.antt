-- A level depends on the set of the variables before it alone.
use Rattle.std.proofs.Common.{◌≡◌, ◌≢◌, ⊎_elim, ℕ, zero, suc, ◌+◌, ◌<◌, ◌≤◌, Bool, true, false, cond, not, ◌&&◌, List, [], ◌∷◌, ◌++◌, map, length, drop, replicate, slice_index, slice_set, refl, ap, sym, subst, ◌∙◌, arith, ltb, get_or-set_same, get_or-set_other, length-append, length-set}
use Rattle.std.specs.Prelude.{filter}
use Rattle.std.specs.List.{list_all, list_any}
use Rattle.std.proofs.lemmas.Bool.{and_parts, and_from, cases_lt, true≢false, true_from_ne_false, false_from_ne_true, lt-ltb, or_from}
use Rattle.std.proofs.lemmas.Grind.{same_number_lists}
use Rattle.std.proofs.lemmas.List.{append_assoc, map-append}
use Rattle.polis_base.specs.Lists.{upto}
use Rattle.polis_base.proofs.Lists.{none_upto}
use Rattle.domains.specs.Tables.{fits, are_sizes}
use Rattle.domains.specs.Orders.{IsPermutation, place}
use Rattle.domains.specs.AllCodes.{all_codes}
use Rattle.decision_diagram.specs.Truths.{same_truth, same_truths}
use Rattle.decision_diagram.specs.Sizes.{by_variable, truths, turns, depends, level, levels, size_along}
use Rattle.decision_diagram.specs.Sets.{stands, taking, arising, turns_at, depends_on, set_level, sum_of_levels}
use Rattle.decision_diagram.proofs.AllCodes.{lists_all, lists_fit, none_lists}
use Rattle.decision_diagram.proofs.ByVariable.{index_map, index_upto, by_variable_at, by_variable_back, by_variable_fits, chosen_fits, item_at}
use Rattle.decision_diagram.proofs.Distinct.{same_maps, truth_equal, truths_self}
use Rattle.decision_diagram.proofs.Fits.{fits_at, size_some}
use Rattle.decision_diagram.proofs.AppendedLists.{stands_at, in_place}
use Rattle.decision_diagram.proofs.Members.{different_members, different_alike, any_filtered, every_filtered, every_mapped}
use Rattle.domains.proofs.Places.{place_of_item, place_below, at_place}
use Rattle.decision_diagram.proofs.Truths.{never_upto}
use Rattle.domains.proofs.Ranks.{length_fits, fits_zeros}
use Rattle.domains.proofs.FittingCodes.{fits_both}
use Rattle.polis_base.proofs.Bools.{same_truth as same_if}
use Rattle.polis_base.proofs.Places.{index_append, length_map}
use Rattle.polis_base.proofs.UptoPlaces.{length_upto}

-- two lists of values that agree at each list that fits
agree_maps : (g h : List ℕ → Bool) (xs : List (List ℕ))
    → list_all (λ x. same_truth (g x) (h x)) xs ≡ true → same_truths (map g xs) (map h xs) ≡ true
agree_maps g h [] all = refl
agree_maps g h (x ∷ xs) all =
    let parts = and_parts (same_truth (g x) (h x)) (list_all (λ x. same_truth (g x) (h x)) xs)
    all in
    and_from (same_truth (g x) (h x)) (same_truths (map g xs) (map h xs)) parts.0
    (agree_maps g h xs parts.1)

truth_own : (b c : Bool) → b ≡ c → same_truth b c ≡ true
truth_own true c e = sym e
truth_own false c e = ap not (sym e)

all_fit : (sizes : List ℕ) (p : List ℕ → Bool)
    → ((codes : List ℕ) → fits sizes codes ≡ true → p codes ≡ true)
    → list_all p (all_codes sizes) ≡ true
all_fit sizes p h = go (all_codes sizes) (lists_fit sizes)
  where
    go : (xs : List (List ℕ)) → list_all (fits sizes) xs ≡ true → list_all p xs ≡ true
    go [] all = refl
    go (x ∷ xs) all =
        let parts = and_parts (fits sizes x) (list_all (fits sizes) xs) all in
        and_from (p x) (list_all p xs) (h x parts.0) (go xs parts.1)

-- a part of one list and then a part of another
index_early : (before rest : List ℕ) (g h : ℕ → ℕ) (p : ℕ) → p < length before
    → slice_index (map g before ++ map h rest) p ≡ g (slice_index (before ++ rest) p)
index_early [] rest g h p low = absurd (omega arith)
index_early (x ∷ before) rest g h zero low = refl
index_early (x ∷ before) rest g h (suc p) low = index_early before rest g h p (omega arith)

index_late : (before rest : List ℕ) (g h : ℕ → ℕ) (p : ℕ) → length before ≤ p
    → p < length (before ++ rest) → slice_index (map g before ++ map h rest) p
    ≡ h (slice_index (before ++ rest) p)
index_late [] rest g h p high low = index_map h rest p low
index_late (x ∷ before) rest g h zero high low = absurd (omega arith)
index_late (x ∷ before) rest g h (suc p) high low =
    index_late before rest g h p (omega arith) (omega arith)

module _ (f : List ℕ → Bool) (sizes order : List ℕ) (perm : IsPermutation order)
    (lengths : length order ≡ length sizes) (sized : are_sizes sizes ≡ true) where
  abbrev z : List ℕ → List ℕ
  z vars = map (slice_index sizes) vars

  abbrev F : List ℕ → Bool
  F codes = f (by_variable order codes)

  abbrev chosen : List ℕ → List ℕ → List ℕ
  chosen vars a = map (slice_index a) vars

  -- a variable is among those before exactly where its place is
  before_has : (before rest : List ℕ) (u : ℕ) → order ≡ before ++ rest → u < length order
      → place order u < length before → stands before u ≡ true
  before_has before rest u split inside low =
      let at : slice_index order (place order u) ≡ u =
      at_place order u (place_below order perm u inside) in
      let e : slice_index before (place order u) ≡ u =
      sym (index_append before rest (place order u) low)
      ∙ ap (λ (o : List ℕ). slice_index o (place order u)) (sym split) ∙ at in
      subst (λ (v : ℕ). stands before v ≡ true) e (stands_at before (place order u) low)

  after_hasnt : (before rest : List ℕ) (u : ℕ) → order ≡ before ++ rest → u < length order
      → length before ≤ place order u → stands before u ≡ false
  after_hasnt before rest u split inside high =
      false_from_ne_true (stands before u) (λ on.
      let low = in_place before u on in
      let long : length order ≡ length before + length rest =
      ap (λ (o : List ℕ). length o) split ∙ length-append before rest in
      let e : slice_index order (place before u) ≡ u =
      ap (λ (o : List ℕ). slice_index o (place before u)) split
      ∙ index_append before rest (place before u) low ∙ at_place before u low in
      let own = place_of_item order perm (place before u) (omega arith) in
      let same = ap (place order) e in
      omega arith)

  -- a prefix and what is after it, by variable
  joined : (before rest a b : List ℕ) → order ≡ before ++ rest → length b ≡ length sizes
      → by_variable order (chosen before a ++ chosen rest b) ≡ taking (stands before) a b
  joined before rest a b split long =
      let codes : List ℕ = chosen before a ++ chosen rest b in
      let l = length_map (λ v. slice_index codes (place order v)) (upto (length order)) in
      let k = length_upto (length order) in
      let j = length_map (λ v. cond (stands before v) (slice_index a v) (slice_index b v))
      (upto (length b)) in
      let i = length_upto (length b) in
      let total : length (before ++ rest) ≡ length order =
      ap (λ (o : List ℕ). length o) (sym split) in
      same_number_lists (by_variable order codes) (taking (stands before) a b) (omega arith)
      (λ u low.
      let inside : u < length order = omega arith in
      let within = place_below order perm u inside in
      let at : slice_index (before ++ rest) (place order u) ≡ u =
      ap (λ (o : List ℕ). slice_index o (place order u)) (sym split)
      ∙ at_place order u within in
      let right : slice_index (taking (stands before) a b) u
      ≡ cond (stands before u) (slice_index a u) (slice_index b u) =
      index_map (λ v. cond (stands before v) (slice_index a v) (slice_index b v)) (upto (length b))
      u (omega arith)
      ∙ ap (λ (v : ℕ). cond (stands before v) (slice_index a v) (slice_index b v))
      (index_upto (length b) u (omega arith))
      in
      by_variable_at order codes perm u inside
      ∙ ⊎_elim
      (λ early. index_early before rest (slice_index a) (slice_index b) (place order u) early
      ∙ ap (slice_index a) at
      ∙ sym (ap (λ (t : Bool). cond t (slice_index a u) (slice_index b u))
      (before_has before rest u split inside early)))
      (λ late. index_late before rest (slice_index a) (slice_index b) (place order u) late
      (omega arith) ∙ ap (slice_index b) at
      ∙ sym (ap (λ (t : Bool). cond t (slice_index a u) (slice_index b u))
      (after_hasnt before rest u split inside late)))
      (cases_lt (place order u) (length before))
      ∙ sym right)

  vars_below : (before rest : List ℕ) → order ≡ before ++ rest
      → ((j : ℕ) → j < length before → slice_index before j < length sizes)
      × ((j : ℕ) → j < length rest → slice_index rest j < length sizes)
  vars_below before rest split =
      let long : length order ≡ length before + length rest =
      ap (λ (o : List ℕ). length o) split ∙ length-append before rest in (
        λ j low.
            let e : slice_index order j ≡ slice_index before j =
            ap (λ (o : List ℕ). slice_index o j) split ∙ index_append before rest j low in
            let b = perm.below j (omega arith) in
            omega arith,
        λ j low.
            let e : slice_index order (length before + j) ≡ slice_index rest j =
            ap (λ (o : List ℕ). slice_index o (length before + j)) split
            ∙ after before rest j in
            let b = perm.below (length before + j) (omega arith) in
            omega arith,
      )
    where
      after : (xs ys : List ℕ) (y : ℕ) → slice_index (xs ++ ys) (length xs + y) ≡ slice_index ys y
      after [] ys y = let e : 0 + y ≡ y = omega arith in ap (slice_index ys) e
      after (x ∷ xs) ys y = let e : suc (length xs) + y ≡ suc (length xs + y) = omega arith in
          ap (slice_index (x ∷ (xs ++ ys))) e ∙ after xs ys y

  -- a list whose parts these are
  whole : (before rest p q : List ℕ) → order ≡ before ++ rest → fits (z before) p ≡ true
      → fits (z rest) q ≡ true → (a : List ℕ) × (fits sizes a ≡ true) × (chosen before a ≡ p)
      × (chosen rest a ≡ q)
  whole before rest p q split fit_p fit_q =
      let a : List ℕ = by_variable order (p ++ q) in
      let both : fits (z (before ++ rest)) (p ++ q) ≡ true =
      rw (map-append (slice_index sizes) before rest)
      (fits_both (z before) (z rest) p q fit_p fit_q) in
      let fit : fits (z order) (p ++ q) ≡ true = rw split both in
      let long : length (p ++ q) ≡ length order =
      length_fits (z order) (p ++ q) fit ∙ length_map (slice_index sizes) order in
      let back : chosen order a ≡ p ++ q = by_variable_back order (p ++ q) perm long in
      let cut : chosen before a ++ chosen rest a ≡ p ++ q =
      sym (map-append (slice_index a) before rest) ∙ ap (λ (o : List ℕ). chosen o a) (sym split)
      ∙ back in
      let l = length_map (slice_index a) before in
      let k = length_fits (z before) p fit_p in
      let j = length_map (slice_index sizes) before in
      let pieces = split_same (chosen before a) (chosen rest a) p q (omega arith) cut in
      (a, by_variable_fits sizes order (p ++ q) perm lengths fit, pieces.0, pieces.1)
    where
      split_same : (xs ys p q : List ℕ) → length xs ≡ length p → xs ++ ys ≡ p ++ q
          → (xs ≡ p) × (ys ≡ q)
      split_same [] ys [] q l e = (refl, e)
      split_same [] ys (c ∷ p) q l e = absurd (omega arith)
      split_same (x ∷ xs) ys [] q l e = absurd (omega arith)
      split_same (x ∷ xs) ys (c ∷ p) q l e =
          let first : x ≡ c = ap (λ (zs : List ℕ). slice_index zs 0) e in
          let rest = split_same xs ys p q (omega arith) (ap (λ (zs : List ℕ). drop 1 zs) e) in
          (ap (λ (n : ℕ). n ∷ xs) first ∙ ap (λ (zs : List ℕ). c ∷ zs) rest.0, rest.1)

  -- two lists give the same function exactly where their prefixes do
  alike : (before rest a b : List ℕ) → order ≡ before ++ rest
      → same_truths (arising f sizes (stands before) a) (arising f sizes (stands before) b)
      ≡ same_truths (truths F (z rest) (chosen before a)) (truths F (z rest) (chosen before b))
  alike before rest a b split =
      same_if (same_truths (arising f sizes (stands before) a) (arising f sizes (stands before) b))
      (same_truths (truths F (z rest) (chosen before a)) (truths F (z rest) (chosen before b)))
      (λ on.
      let each = same_maps (λ c. f (taking (stands before) a c))
      (λ c. f (taking (stands before) b c)) (all_codes sizes) on in
      agree_maps (λ q. F (chosen before a ++ q)) (λ q. F (chosen before b ++ q))
      (all_codes (z rest))
      (all_fit (z rest) (λ q. same_truth (F (chosen before a ++ q)) (F (chosen before b ++ q)))
      (λ q fit_q.
      let zeros : List ℕ = map (λ v. 0) before in
      let some = whole before rest (chosen before (replicate (length sizes) 0)) q split
      (chosen_fits sizes (replicate (length sizes) 0) before (fits_zeros sizes sized)
      (vars_below before rest split).0) fit_q in
      let c = some.0 in
      let long = length_fits sizes c some.1 in
      let one = lists_all sizes
      (λ c. same_truth (f (taking (stands before) a c)) (f (taking (stands before) b c))) each c
      some.1 in
      let left : F (chosen before a ++ q) ≡ f (taking (stands before) a c) =
      ap (λ (r : List ℕ). F (chosen before a ++ r)) (sym some.3)
      ∙ ap f (joined before rest a c split long) in
      let right : F (chosen before b ++ q) ≡ f (taking (stands before) b c) =
      ap (λ (r : List ℕ). F (chosen before b ++ r)) (sym some.3)
      ∙ ap f (joined before rest b c split long) in
      rw (left, right) one)))
      (λ on.
      let each = same_maps (λ q. F (chosen before a ++ q)) (λ q. F (chosen before b ++ q))
      (all_codes (z rest)) on in
      agree_maps (λ c. f (taking (stands before) a c)) (λ c. f (taking (stands before) b c))
      (all_codes sizes)
      (all_fit sizes (λ c. same_truth (f (taking (stands before) a c))
      (f (taking (stands before) b c))) (λ c fit_c.
      let long = length_fits sizes c fit_c in
      let q : List ℕ = chosen rest c in
      let one = lists_all (z rest) (λ q.
      same_truth (F (chosen before a ++ q)) (F (chosen before b ++ q))) each q
      (chosen_fits sizes c rest fit_c (vars_below before rest split).1) in
      let left : f (taking (stands before) a c) ≡ F (chosen before a ++ q) =
      sym (ap f (joined before rest a c split long)) in
      let right : f (taking (stands before) b c) ≡ F (chosen before b ++ q) =
      sym (ap f (joined before rest b c split long)) in
      rw (left, right) one)))

  -- ---- what depends on the next variable
  chosen_apart : (vs b : List ℕ) (v c : ℕ) → ((j : ℕ) → j < length vs → slice_index vs j ≢ v)
      → chosen vs (slice_set b v c) ≡ chosen vs b
  chosen_apart [] b v c apart = refl
  chosen_apart (w ∷ vs) b v c apart =
      ap (λ (n : ℕ). n ∷ chosen vs (slice_set b v c))
      (get_or-set_other b v w c 0 (apart 0 (omega arith)))
      ∙ ap (λ (ns : List ℕ). slice_index b w ∷ ns)
      (chosen_apart vs b v c (λ j low. apart (suc j) (omega arith)))

  -- the value at a prefix, then a code of the next variable, then the rest of a list
  value_with : (before vs a b : List ℕ) (v c : ℕ) → order ≡ before ++ v ∷ vs → fits sizes b ≡ true
      → c < slice_index sizes v → f (taking (stands before) a (slice_set b v c))
      ≡ F (chosen before a ++ c ∷ chosen vs b)
  value_with before vs a b v c split fit low =
      let long = length_fits sizes b fit in
      let below = (vars_below before (v ∷ vs) split).1 0 (omega arith) in
      let total : length order ≡ length before + length (v ∷ vs) =
      ap (λ (o : List ℕ). length o) split ∙ length-append before (v ∷ vs) in
      let at_v : slice_index order (length before) ≡ v =
      ap (λ (o : List ℕ). slice_index o (length before)) split ∙ item_at before vs v in
      let own : slice_index (slice_set b v c) v ≡ c = get_or-set_same b v c 0 (omega arith) in
      let rest : chosen (v ∷ vs) (slice_set b v c) ≡ c ∷ chosen vs b =
      ap (λ (n : ℕ). n ∷ chosen vs (slice_set b v c)) own
      ∙ ap (λ (ns : List ℕ). c ∷ ns) (chosen_apart vs b v c (λ j inside same.
      let at_w : slice_index order (length before + suc j) ≡ slice_index vs j =
      ap (λ (o : List ℕ). slice_index o (length before + suc j)) split ∙ after before vs j in
      perm.distinct (length before) (length before + suc j) (omega arith) (omega arith)
      (at_v ∙ sym same ∙ sym at_w)))
      in
      sym (ap f (joined before (v ∷ vs) a (slice_set b v c) split (length-set b v c ∙ long)))
      ∙ ap (λ (ns : List ℕ). F (chosen before a ++ ns)) rest
    where
      after : (xs ys : List ℕ) (j : ℕ) → slice_index (xs ++ v ∷ ys) (length xs + suc j)
          ≡ slice_index ys j
      after [] ys j = let e : 0 + suc j ≡ suc j = omega arith in ap (slice_index (v ∷ ys)) e
      after (x ∷ xs) ys j = let e : suc (length xs) + suc j ≡ suc (length xs + suc j) =
          omega arith in ap (slice_index (x ∷ (xs ++ v ∷ ys))) e ∙ after xs ys j

  value_same : (before vs a b : List ℕ) (v : ℕ) → order ≡ before ++ v ∷ vs → fits sizes b ≡ true
      → f (taking (stands before) a b) ≡ F (chosen before a ++ slice_index b v ∷ chosen vs b)
  value_same before vs a b v split fit =
      sym (ap f (joined before (v ∷ vs) a b split (length_fits sizes b fit)))

  not_true : (b : Bool) → not b ≡ false → b ≡ true
  not_true true h = refl
  not_true false h = absurd (true≢false h)

  never : (p : List ℕ → Bool) → ((b : List ℕ) → fits sizes b ≡ true → p b ≡ false)
      → list_any p (all_codes sizes) ≡ false
  never p off = go (all_codes sizes) (lists_fit sizes)
    where
      go : (xs : List (List ℕ)) → list_all (fits sizes) xs ≡ true → list_any p xs ≡ false
      go [] all = refl
      go (x ∷ xs) all =
          let parts = and_parts (fits sizes x) (list_all (fits sizes) xs) all in
          or_from (p x) (list_any p xs) (off x parts.0) (go xs parts.1)

  depends_alike : (before vs a : List ℕ) (v : ℕ) → order ≡ before ++ v ∷ vs → fits sizes a ≡ true
      → depends_on f sizes (stands before) v a
      ≡ depends F (slice_index sizes v) (z vs) (chosen before a)
  depends_alike before vs a v split fit_a =
      let size = slice_index sizes v in
      let p : List ℕ = chosen before a in
      let below = (vars_below before (v ∷ vs) split).1 0 (omega arith) in
      let some = size_some sizes sized v below in
      same_if (depends_on f sizes (stands before) v a) (depends F size (z vs) p)
      (λ on.
      true_from_ne_false (depends F size (z vs) p) (λ off.
      true≢false (sym on ∙ never (turns_at f sizes (stands before) v a) (λ b fit_b.
      never_upto (λ code.
      not (same_truth (f (taking (stands before) a (slice_set b v code)))
      (f (taking (stands before) a b)))) size (λ code low.
      let q : List ℕ = chosen vs b in
      let fit_q : fits (z vs) q ≡ true =
      (chosen_fits sizes b vs fit_b (λ j inside.
      (vars_below before (v ∷ vs) split).1 (suc j) (omega arith))) in
      let level_with : (c : ℕ) → c < size → F (p ++ c ∷ q) ≡ F (p ++ 0 ∷ q) = λ c low_c.
      let same = not_true
      (same_truths (truths F (z vs) (p ++ c ∷ [])) (truths F (z vs) (p ++ 0 ∷ [])))
      (none_upto (turns F (z vs) p) size off c low_c) in
      let one = lists_all (z vs) (λ q. same_truth (F ((p ++ c ∷ []) ++ q)) (F ((p ++ 0 ∷ []) ++ q)))
      (same_maps (λ q. F ((p ++ c ∷ []) ++ q)) (λ q. F ((p ++ 0 ∷ []) ++ q)) (all_codes (z vs))
      same) q fit_q in
      ap F (sym (append_assoc p (c ∷ []) q))
      ∙ truth_equal (F ((p ++ c ∷ []) ++ q)) (F ((p ++ 0 ∷ []) ++ q)) one
      ∙ ap F (append_assoc p (0 ∷ []) q)
      in
      let own = fits_at sizes b fit_b v below in
      ap not (truth_own (f (taking (stands before) a (slice_set b v code)))
      (f (taking (stands before) a b))
      (value_with before vs a b v code split fit_b low ∙ level_with code low
      ∙ sym (level_with (slice_index b v) own)
      ∙ sym (value_same before vs a b v split fit_b))))))))
      (λ on.
      true_from_ne_false (depends_on f sizes (stands before) v a) (λ off.
      true≢false (sym on ∙ never_upto (turns F (z vs) p) size (λ code low.
      ap not (agree_maps (λ q. F ((p ++ code ∷ []) ++ q)) (λ q. F ((p ++ 0 ∷ []) ++ q))
      (all_codes (z vs))
      (all_fit (z vs) (λ q. same_truth (F ((p ++ code ∷ []) ++ q)) (F ((p ++ 0 ∷ []) ++ q)))
      (λ q fit_q.
      let fit_p : fits (z before) p ≡ true =
      chosen_fits sizes a before fit_a (vars_below before (v ∷ vs) split).0 in
      let fit_zero : fits (z (v ∷ vs)) (0 ∷ q) ≡ true =
      and_from (ltb 0 size) (fits (z vs) q) (lt-ltb 0 size (omega arith)) fit_q in
      let made = whole before (v ∷ vs) p (0 ∷ q) split fit_p fit_zero in
      let b = made.0 in
      let zero_there : slice_index b v ≡ 0 = ap (λ (ns : List ℕ). slice_index ns 0) made.3 in
      let rest_there : chosen vs b ≡ q = ap (λ (ns : List ℕ). drop 1 ns) made.3 in
      let here = none_lists sizes (turns_at f sizes (stands before) v a) off b made.1 in
      let same = not_true
      (same_truth (f (taking (stands before) a (slice_set b v code)))
      (f (taking (stands before) a b)))
      (none_upto (λ code.
      not (same_truth (f (taking (stands before) a (slice_set b v code)))
      (f (taking (stands before) a b)))) size here code low) in
      let equal = truth_equal (f (taking (stands before) a (slice_set b v code)))
      (f (taking (stands before) a b)) same in
      truth_own (F ((p ++ code ∷ []) ++ q)) (F ((p ++ 0 ∷ []) ++ q))
      (ap F (append_assoc p (code ∷ []) q)
      ∙ ap (λ (ns : List ℕ). F (p ++ code ∷ ns)) (sym rest_there)
      ∙ sym (value_with before vs a b v code split made.1 low)
      ∙ equal
      ∙ value_same before vs a b v split made.1
      ∙ ap (λ (n : ℕ). F (p ++ n ∷ chosen vs b)) zero_there
      ∙ ap (λ (ns : List ℕ). F (p ++ 0 ∷ ns)) rest_there
      ∙ ap F (sym (append_assoc p (0 ∷ []) q))))))))))

  -- ---- a level by its set
  level_by_set : (before vs : List ℕ) (v : ℕ) → order ≡ before ++ v ∷ vs
      → set_level f sizes (stands before) v ≡ level F (z before) (slice_index sizes v) (z vs)
  level_by_set before vs v split =
      let size = slice_index sizes v in
      let E : List ℕ → Bool = depends_on f sizes (stands before) v in
      let D : List ℕ → Bool = depends F size (z vs) in
      let T : List ℕ → List Bool = truths F (z (v ∷ vs)) in
      let mine = filter E (all_codes sizes) in
      let prefix = filter D (all_codes (z before)) in
      let good = every_filtered (fits sizes) E (all_codes sizes) (lists_fit sizes) in
      different_alike (λ a. (fits sizes a ≡ true) × (E a ≡ true)) (arising f sizes (stands before))
      (λ a. T (chosen before a)) (λ a b in_a in_b. alike before (v ∷ vs) a b split) mine good
      ∙ different_members (map (λ a. T (chosen before a)) mine) (map T prefix)
      (every_mapped (λ a. (fits sizes a ≡ true) × (E a ≡ true))
      (λ u. list_any (same_truths u) (map T prefix) ≡ true) (λ a. T (chosen before a)) mine good
      (λ a in_a.
      let p : List ℕ = chosen before a in
      let fit_p : fits (z before) p ≡ true =
      chosen_fits sizes a before in_a.0 (vars_below before (v ∷ vs) split).0 in
      let on : D p ≡ true = sym (depends_alike before vs a v split in_a.0) ∙ in_a.1 in
      any_filtered (same_truths (T p)) T D (all_codes (z before))
      ∙ true_from_ne_false (list_any (λ q. D q && same_truths (T p) (T q)) (all_codes (z before)))
      (λ none.
      true≢false (sym (and_from (D p) (same_truths (T p) (T p)) on (truths_self (T p)))
      ∙ none_lists (z before) (λ q. D q && same_truths (T p) (T q)) none p fit_p))))
      (every_mapped (λ p. (fits (z before) p ≡ true) × (D p ≡ true))
      (λ u. list_any (same_truths u) (map (λ a. T (chosen before a)) mine) ≡ true) T prefix
      (every_filtered (fits (z before)) D (all_codes (z before)) (lists_fit (z before)))
      (λ p in_p.
      let made = whole before (v ∷ vs) p (chosen (v ∷ vs) (replicate (length sizes) 0)) split in_p.0
      (chosen_fits sizes (replicate (length sizes) 0) (v ∷ vs) (fits_zeros sizes sized)
      (vars_below before (v ∷ vs) split).1) in
      let a = made.0 in
      let on : E a ≡ true = depends_alike before vs a v split made.1 ∙ ap D made.2 ∙ in_p.1 in
      let same : same_truths (T p) (T (chosen before a)) ≡ true =
      ap (λ (q : List ℕ). same_truths (T p) (T q)) made.2 ∙ truths_self (T p) in
      any_filtered (same_truths (T p)) (λ a. T (chosen before a)) E (all_codes sizes)
      ∙ true_from_ne_false
      (list_any (λ a. E a && same_truths (T p) (T (chosen before a))) (all_codes sizes))
      (λ none.
      true≢false (sym (and_from (E a) (same_truths (T p) (T (chosen before a))) on same)
      ∙ none_lists sizes (λ a. E a && same_truths (T p) (T (chosen before a))) none a made.1))))

  sum_from : (vars before : List ℕ) → order ≡ before ++ vars
      → sum_of_levels f sizes before vars ≡ levels F (z before) (z vars)
  sum_from [] before split = refl
  sum_from (v ∷ vs) before split =
      let split_too : order ≡ (before ++ v ∷ []) ++ vs =
      split ∙ sym (append_assoc before (v ∷ []) vs) in
      let longer : z (before ++ v ∷ []) ≡ z before ++ slice_index sizes v ∷ [] =
      map-append (slice_index sizes) before (v ∷ []) in
      ap (λ (n : ℕ). n + sum_of_levels f sizes (before ++ v ∷ []) vs)
      (level_by_set before vs v split)
      ∙ ap (λ (n : ℕ). level F (z before) (slice_index sizes v) (z vs) + n)
      (sum_from vs (before ++ v ∷ []) split_too
      ∙ ap (λ (zs : List ℕ). levels F zs (z vs)) longer)

  pub size_by_levels : sum_of_levels f sizes [] order ≡ size_along f sizes order
  size_by_levels = sum_from order [] refl
