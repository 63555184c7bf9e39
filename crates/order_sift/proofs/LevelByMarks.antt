-- A level, by numbers for what is left.
use Rattle.std.proofs.Common.{◌≡◌, ⊎_elim, ℕ, zero, suc, ◌<◌, ◌≤◌, Bool, true, false, cond, not, ltb, List, ◌∷◌, ◌&&◌, map, length, take, slice_index, slice_set, refl, ap, sym, ◌∙◌, arith, subst, []}
use Rattle.std.specs.Prelude.{filter}
use Rattle.std.specs.List.{list_all}
use Rattle.std.proofs.lemmas.Bool.{and_parts, and_from, cases_eq, cases_Bool, lt-ltb, ltb-true, true≢false, not-true}
use Rattle.std.proofs.lemmas.List.Folds.{list_all-append}
use Rattle.polis_base.specs.Lists.{upto}
use Rattle.domains.specs.AllCodes.{all_codes}
use Rattle.domains.specs.Tables.{fits, product, rank}
use Rattle.transition_table.specs.declared.machine.Machine.{Machine}
use Rattle.transition_table.specs.Computed.{char}
use Rattle.transition_table.specs.Orders.{sizes_of}
use Rattle.decision_diagram.specs.Sets.{taking, arising, turns_at, depends_on, set_level}
use Rattle.decision_diagram.specs.Truths.{same_truth}
use Rattle.order_sift.specs.inner.Below.{Below}
use Rattle.order_sift.specs.inner.Classes.{snapshot_at, point_at, left_at, AreClasses, AreMarks, matters, differing}
use Rattle.order_sift.specs.inner.Pairs.{AreBelow}
use Rattle.order_sift.proofs.ListUpdates.{cond_same}
use Rattle.char_function.proofs.FixedCodes.{set_else, taking_is, taking_at, taking_long, taking_fits}
use Rattle.order_sift.proofs.Different.{has, same_items, by_numbers, all_kept, any_kept, some_item, any_item}
use Rattle.order_sift.proofs.FixedToo.{same_where_fixed}
use Rattle.order_sift.proofs.TruePoints.{point, point_fits, point_true, true_point, snapshot_of, snapshot_fits, at_rank, rank_low}
use Rattle.domains.proofs.Ranks.{length_fits}
use Rattle.transition_table.proofs.Ranges.{below_size}
use Rattle.domains.proofs.FittingCodes.{fits_set}
use Rattle.polis_base.proofs.ListTests.{all_get}
use Rattle.polis_base.proofs.Places.{index_set, length_set}
use Rattle.polis_base.proofs.UptoPlaces.{get_upto, length_upto}

pub all_upto : (n k : ℕ) → n ≤ k → list_all (λ i. ltb i k) (upto n) ≡ true
all_upto zero k low = refl
all_upto (suc n) k low = list_all-append (λ i. ltb i k) (upto n) (n ∷ [])
    ∙ and_from (list_all (λ i. ltb i k) (upto n)) (ltb n k && true) (all_upto n k (omega arith))
    (and_from (ltb n k) true (lt-ltb n k (omega arith)) refl)

all_filter : (p d : ℕ → Bool) (xs : List ℕ) → list_all p xs ≡ true → list_all p (filter d xs) ≡ true
all_filter p d [] all = refl
all_filter p d (x ∷ xs) all =
    let parts = and_parts (p x) (list_all p xs) all in
    let rest = all_filter p d xs parts.1 in
    ⊎_elim
    (λ on. ap (λ b. list_all p (cond b (x ∷ filter d xs) (filter d xs))) on
    ∙ and_from (p x) (list_all p (filter d xs)) parts.0 rest)
    (λ off. ap (λ b. list_all p (cond b (x ∷ filter d xs) (filter d xs))) off ∙ rest)
    (cases_Bool (d x))

set_back : (xs : List ℕ) (v code : ℕ) → slice_set (slice_set xs v code) v (slice_index xs v) ≡ xs
set_back [] v code = refl
set_back (x ∷ xs) zero code = refl
set_back (x ∷ xs) (suc v) code = ap (λ (ns : List ℕ). x ∷ ns) (set_back xs v code)

apart_on : (a b : Bool) → not (same_truth a b) ≡ true → b ≡ true → a ≡ false
apart_on true true h on = absurd (true≢false (sym h))
apart_on false true h on = refl
apart_on a false h on = absurd (true≢false (sym on))

apart_off : (a b : Bool) → not (same_truth a b) ≡ true → b ≡ false → a ≡ true
apart_off true false h off = refl
apart_off false false h off = absurd (true≢false (sym h))
apart_off a true h off = absurd (true≢false off)

module _ (m : Machine) (below : Below) (fixed : ℕ → Bool) (x : ℕ) (lx : x < length (sizes_of m))
    (free : fixed x ≡ false) where
  setting : (a b : List ℕ) (code : ℕ) → fits (sizes_of m) b ≡ true
      → taking fixed a (slice_set b x code) ≡ slice_set (taking fixed a b) x code
  setting a b code fit =
      let lb = length_fits (sizes_of m) b fit in
      let lt = taking_long fixed a b in
      let ls = length_set b x code in
      taking_is fixed a (slice_set b x code) (slice_set (taking fixed a b) x code)
      (length_set b x code ∙ sym lt ∙ sym (length_set (taking fixed a b) x code)) (λ w low.
      ⊎_elim
      (λ here.
      let off : fixed w ≡ false = ap fixed here ∙ free in
      ap (λ t. cond t (slice_index a w) (slice_index (slice_set b x code) w)) off
      ∙ ap (slice_index (slice_set b x code)) here
      ∙ index_set b x code (omega arith)
      ∙ sym (ap (slice_index (slice_set (taking fixed a b) x code)) here
      ∙ index_set (taking fixed a b) x code (omega arith)))
      (λ other.
      ap (λ (n : ℕ). cond (fixed w) (slice_index a w) n) (set_else b x w code other)
      ∙ sym (set_else (taking fixed a b) x w code other ∙ taking_at fixed a b w (omega arith)))
      (cases_eq w x))

  -- a snapshot leaves what is left of the list
  record Found (a : List ℕ) : Type 0 where
    number : ℕ
    low : number < product m.vars
    on : matters m x number ≡ true
    same : arising (char m) (sizes_of m) fixed a ≡ left_at m fixed number

  found : (a u : List ℕ) (code : ℕ) → fits (sizes_of m) u ≡ true → char m u ≡ true
      → code < slice_index (sizes_of m) x → char m (slice_set u x code) ≡ false
      → arising (char m) (sizes_of m) fixed a ≡ arising (char m) (sizes_of m) fixed u → Found a
  found a u code fit on low off same =
      let s = take (length m.vars) u in
      let hs = snapshot_of m below u fit in
      let i = rank m.vars s in
      let is : point_at m i ≡ u = ap (point m) (at_rank m below s hs)
      ∙ sym (true_point m below u on) in
      record {
        number = i;
        low = rank_low m below s hs;
        on = any_item (λ c. not (char m (slice_set (point_at m i) x c)))
            (upto (slice_index (sizes_of m) x)) code code
            (get_upto (slice_index (sizes_of m) x) code low)
            (ap (λ (q : List ℕ). not (char m (slice_set q x code))) is ∙ ap not off);
        same = same ∙ ap (arising (char m) (sizes_of m) fixed) (sym is);
      }

  from_depends : (a : List ℕ) → fits (sizes_of m) a ≡ true
      → depends_on (char m) (sizes_of m) fixed x a ≡ true → Found a
  from_depends a ha on =
      let one = some_item (turns_at (char m) (sizes_of m) fixed x a) (all_codes (sizes_of m)) on in
      let b = one.1 in
      let hb : fits (sizes_of m) b ≡ true =
      all_get (fits (sizes_of m)) (all_codes (sizes_of m)) one.0 b
      (below.lists_fit (sizes_of m)) one.2 in
      let two = some_item
      (λ code. not (same_truth (char m (taking fixed a (slice_set b x code)))
      (char m (taking fixed a b)))) (upto (slice_index (sizes_of m) x)) one.3 in
      let code = two.1 in
      let low : code < slice_index (sizes_of m) x =
      ltb-true code (slice_index (sizes_of m) x)
      (all_get (λ i. ltb i (slice_index (sizes_of m) x)) (upto (slice_index (sizes_of m) x))
      two.0 code (all_upto (slice_index (sizes_of m) x) (slice_index (sizes_of m) x)
      (let e : slice_index (sizes_of m) x ≤ slice_index (sizes_of m) x = omega arith in e))
      two.2) in
      let u = taking fixed a b in
      let hu = taking_fits (sizes_of m) fixed a b ha hb in
      let lu = length_fits (sizes_of m) u hu in
      let lb = length_fits (sizes_of m) b hb in
      let set : taking fixed a (slice_set b x code) ≡ slice_set u x code = setting a b code hb in
      let apart : not (same_truth (char m (slice_set u x code)) (char m u)) ≡ true =
      ap (λ (q : List ℕ). not (same_truth (char m q) (char m u))) (sym set) ∙ two.3 in
      let fixed_part : (w : ℕ) → w < length (sizes_of m) → fixed w ≡ true
      → slice_index a w ≡ slice_index u w =
      λ w lw f. sym (taking_at fixed a b w (omega arith)
      ∙ ap (λ t. cond t (slice_index a w) (slice_index b w)) f) in
      ⊎_elim
      (λ yes_here. found a u code hu yes_here low
      (apart_on (char m (slice_set u x code)) (char m u) apart yes_here)
      (same_where_fixed m below fixed a u fixed_part))
      (λ off.
      let own = slice_index u x in
      let hset = fits_set (sizes_of m) u x code hu low in
      found a (slice_set u x code) own hset
      (apart_off (char m (slice_set u x code)) (char m u) apart off)
      (below_size (sizes_of m) u x hu lx) (ap (char m) (set_back u x code) ∙ off)
      (same_where_fixed m below fixed a (slice_set u x code)
      (λ w lw f. fixed_part w lw f ∙ sym
      (set_else u x w code (λ e. true≢false (sym f ∙ ap fixed e ∙ free))))))
      (cases_Bool (char m u))

  to_depends : (i : ℕ) → i < product m.vars → matters m x i ≡ true
      → depends_on (char m) (sizes_of m) fixed x (point_at m i) ≡ true
  to_depends i low on =
      let p = point_at m i in
      let hs = snapshot_fits m below i low in
      let hp = point_fits m below (snapshot_at m i) hs in
      let size = slice_index (sizes_of m) x in
      let one = some_item (λ c. not (char m (slice_set p x c))) (upto size) on in
      let c = one.1 in
      let off : char m (slice_set p x c) ≡ false = not-true (char m (slice_set p x c)) one.3 in
      let own : taking fixed p p ≡ p =
      taking_is fixed p p p refl (λ w l. cond_same (fixed w) (slice_index p w)) in
      let a : char m (taking fixed p (slice_set p x c)) ≡ false =
      ap (char m) (setting p p c hp ∙ ap (λ (q : List ℕ). slice_set q x c) own) ∙ off in
      let b : char m (taking fixed p p) ≡ true =
      ap (char m) own ∙ point_true m below (snapshot_at m i) hs in
      any_item (turns_at (char m) (sizes_of m) fixed x p) (all_codes (sizes_of m))
      (rank (sizes_of m) p) p (below.stands_at_rank (sizes_of m) p hp)
      (any_item (λ code.
      not (same_truth (char m (taking fixed p (slice_set p x code)))
      (char m (taking fixed p p)))) (upto size) one.0 c one.2
      (ap (λ t. not (same_truth t (char m (taking fixed p p)))) a
      ∙ ap (λ t. not (same_truth false t)) b))

  pub level_by_marks : (classes marks : List ℕ) → AreClasses m fixed classes → AreMarks m x marks
      → set_level (char m) (sizes_of m) fixed x ≡ differing (map (slice_index classes) marks)
  level_by_marks classes marks are signs =
      let n = product m.vars in
      let kept = filter (matters m x) (upto n) in
      let T = arising (char m) (sizes_of m) fixed in
      let dep = depends_on (char m) (sizes_of m) fixed x in
      let upto_low = all_upto n n (let e : n ≤ n = omega arith in e) in
      same_items (map T (filter dep (all_codes (sizes_of m)))) (map (left_at m fixed) kept)
      (all_kept (fits (sizes_of m)) dep (λ z. has z (map (left_at m fixed) kept)) T
      (all_codes (sizes_of m)) (below.lists_fit (sizes_of m)) (λ a ha on.
      let f = from_depends a ha on in
      any_kept (matters m x) (left_at m fixed) (T a) (upto n) f.number f.number
      (get_upto n f.number f.low) f.on f.same))
      (all_kept (λ i. ltb i n) (matters m x)
      (λ z. has z (map T (filter dep (all_codes (sizes_of m))))) (left_at m fixed) (upto n)
      upto_low (λ i low on.
      let li = ltb-true i n low in
      let p = point_at m i in
      let hp = point_fits m below (snapshot_at m i) (snapshot_fits m below i li) in
      any_kept dep T (left_at m fixed i) (all_codes (sizes_of m)) (rank (sizes_of m) p) p
      (below.stands_at_rank (sizes_of m) p hp)
      (to_depends i li on) refl))
      ∙ by_numbers (left_at m fixed) (slice_index classes) n are.same kept
      (all_filter (λ i. ltb i n) (matters m x) (upto n) upto_low)
      ∙ ap (λ (ks : List ℕ). differing (map (slice_index classes) ks)) (sym signs)

-- ---- the marks are snapshots, and not more than there are

all_at : (p : ℕ → Bool) (xs : List ℕ) (i : ℕ) → i < length xs → list_all p xs ≡ true
    → p (slice_index xs i) ≡ true
all_at p [] i low all = absurd (omega arith)
all_at p (x ∷ xs) zero low all = (and_parts (p x) (list_all p xs) all).0
all_at p (x ∷ xs) (suc i) low all =
    all_at p xs i (omega arith) (and_parts (p x) (list_all p xs) all).1

filter_few : (p : ℕ → Bool) (xs : List ℕ) → length (filter p xs) ≤ length xs
filter_few p [] = omega arith
filter_few p (x ∷ xs) =
    let rest = filter_few p xs in
    ⊎_elim
    (λ on.
    let e : length (filter p (x ∷ xs)) ≡ suc (length (filter p xs)) =
    ap (λ b. length (cond b (x ∷ filter p xs) (filter p xs))) on in
    omega arith)
    (λ off.
    let e : length (filter p (x ∷ xs)) ≡ length (filter p xs) =
    ap (λ b. length (cond b (x ∷ filter p xs) (filter p xs))) off in
    omega arith)
    (cases_Bool (p x))

pub marks_low : (m : Machine) (x : ℕ) (marks : List ℕ) → AreMarks m x marks
    → AreBelow (product m.vars) marks
marks_low m x marks signs =
    let n = product m.vars in
    subst (AreBelow n) (sym signs) (λ i li. ltb-true (slice_index (filter (matters m x) (upto n)) i) n
    (all_at (λ k. ltb k n) (filter (matters m x) (upto n)) i li
    (all_filter (λ k. ltb k n) (matters m x) (upto n)
    (all_upto n n (let e : n ≤ n = omega arith in e)))))

pub marks_few : (m : Machine) (x : ℕ) (marks : List ℕ) → AreMarks m x marks
    → length marks ≤ product m.vars
marks_few m x marks signs =
    let n = product m.vars in
    let few = filter_few (matters m x) (upto n) in
    let l = length_upto n in
    let e = ap (λ (xs : List ℕ). length xs) signs in
    omega arith
