-- Steps from place to place.
use Rattle.std.proofs.Common.{◌≡◌, ⊎_elim, ℕ, zero, suc, ◌+◌, ◌-◌, ◌*◌, ◌<◌, ◌≤◌, Bool, true, false, List, [], ◌∷◌, ◌++◌, length, take, drop, get_or, slice_index, slice_set, replicate, refl, ap, sym, ◌∙◌, arith, subst, length-append}
use Rattle.std.specs.Prelude.{IsTrue}
use Rattle.std.specs.List.{remove}
use Rattle.std.proofs.lemmas.Bool.{cases_eq, cases_lt}
use Rattle.std.proofs.lemmas.List.{get_or_append_left, take_more}
use Rattle.domains.specs.Orders.{place}
use Rattle.domains.specs.Tables.{are_sizes, product}
use Rattle.transition_table.specs.declared.machine.Machine.{Machine}
use Rattle.transition_table.specs.Computed.{char}
use Rattle.transition_table.specs.Orders.{Allowed, sizes_of}
use Rattle.transition_table.specs.Transitions.{IsDeterministic}
use Rattle.decision_diagram.specs.Sets.{stands, set_level, sum_of_levels}
use Rattle.char_function.specs.Sizes.{Size}
use Rattle.order_sift.specs.inner.Below.{Below, BelowOrders}
use Rattle.order_sift.specs.inner.Chains.{levels_from, AreChain, AreSizes}
use Rattle.order_sift.specs.inner.Classes.{snapshot_at, AreClasses, IsNextItem, fixed_too}
use Rattle.order_sift.specs.Moves.{moved}
use Rattle.char_function.proofs.FixedCodes.{set_else}
use Rattle.order_sift.proofs.FixedToo.{all_fixed}
use Rattle.order_sift.proofs.TruePoints.{snapshot_fits}
use Rattle.char_function.proofs.FixedCodes.{at_stands}
use Rattle.order_sift.proofs.MovedLevels.{stands_more, front_of, back_of, next_item, classes_more, levels_more, rest_long, rest_low, rest_high, size_is, next_with, next_without, free_without, classes_with, classes_without, classes_before, classes_start, back_step, front_step, back_end, front_start}
use Rattle.polis_base.proofs.Places.{index_set}

at_end : {X : Type 0} (xs : List X) (x d : X) (k : ℕ) → k ≡ length xs
    → get_or (xs ++ x ∷ []) k d ≡ x
at_end [] x d zero e = refl
at_end [] x d (suc k) e = absurd (omega arith)
at_end (y ∷ xs) x d zero e = absurd (omega arith)
at_end (y ∷ xs) x d (suc k) e = at_end xs x d k (omega arith)

pub filled_at : (x n i : ℕ) → i < n → slice_index (replicate n x) i ≡ x
filled_at x zero i low = absurd (omega arith)
filled_at x (suc n) zero low = refl
filled_at x (suc n) (suc i) low = filled_at x n i (omega arith)

-- what numbering asks of a set to which an item was fixed too
pub record Follows (m : Machine) (fixed : ℕ → Bool) (item : ℕ) (old : List ℕ) : Type 0 where
  pub next : IsNextItem m fixed item
  pub too : AreClasses m (fixed_too fixed item) old

-- one more size is put
pub sizes_set : (m : Machine) (o sizes : List ℕ) (i first j value one other new_one new_other : ℕ)
    → first ≤ new_one → first ≤ j → j < length sizes + first → value ≡ Size m (moved o i j)
    → AreSizes m o i first sizes one other
    → ((k : ℕ) → new_one ≤ k → k ≤ new_other → (k ≡ j → ⊥) → (one ≤ k) × (k ≤ other))
    → AreSizes m o i first (slice_set sizes (j - first) value) new_one new_other
sizes_set m o sizes i first j value one other new_one new_other low_one low room is sizes_are
    within k a b =
    ⊎_elim
    (λ e.
    ap (λ n. slice_index (slice_set sizes (j - first) value) (n - first)) e
    ∙ index_set sizes (j - first) value (omega arith)
    ∙ is
    ∙ ap (λ n. Size m (moved o i n)) (sym e))
    (λ apart.
    let w = within k a b apart in
    set_else sizes (j - first) (k - first) value (λ h. apart (omega arith)) ∙ sizes_are k w.0 w.1)
    (cases_eq k j)

module _ (m : Machine) (o : List ℕ) (laws : BelowOrders) (sure : IsDeterministic m)
    (allowed : Allowed m o) where
  -- ---- the chain
  stands_all : (w : ℕ) → w < length (sizes_of m) → stands (take (length o) o) w ≡ true
  stands_all w low =
      let long = allowed.long in
      let there = laws.have_places o w allowed.permutation (omega arith) in
      at_stands o (length o) (place o w) w there.0 there.0 there.1

  pub chain_start : Below → (zeros : List ℕ) (count : ℕ) (classes : List (List ℕ)) (backs : List ℕ)
      → zeros ≡ replicate count 0 → count ≡ product m.vars
      → classes ≡ zeros ∷ [] → backs ≡ 0 ∷ [] → AreChain m o 0 classes backs
  chain_start below zeros count classes backs is count_is classes_is backs_is =
      let none : length o - 0 ≡ length o = omega arith in
      let same : (i : ℕ) → slice_index zeros i ≡ 0 =
      λ i. ap (λ (xs : List ℕ). slice_index xs i) is ∙ all_zeros count i in
      let first : AreClasses m (stands (take (length o) o)) zeros = record {
        long = ap (λ (xs : List ℕ). length xs) is ∙ long_zeros count ∙ count_is;
        below = λ i low.
            let e = same i in
            let long : length zeros ≡ product m.vars = ap (λ (xs : List ℕ). length xs) is
            ∙ long_zeros count ∙ count_is in
            omega arith;
        same = λ i j li lj. (
          λ h. all_fixed m below (stands (take (length o) o)) (snapshot_at m i) (snapshot_at m j)
              (snapshot_fits m below i li) (snapshot_fits m below j lj) stands_all,
          λ h. same i
              ∙ sym (same j),
        );
      } in
      record {
        long = ap (λ (xs : List (List ℕ)). length xs) classes_is;
        long_backs = ap (λ (xs : List ℕ). length xs) backs_is;
        numbers = λ t low.
            let e : 0 ≡ t = omega arith in
            subst (λ (n : ℕ). AreClasses m (stands (take (length o - n) o)) (get_or classes n [])) e
            (subst (λ (n : ℕ). AreClasses m (stands (take n o)) (get_or classes 0 []))
            (sym none) (subst
            (λ (xs : List (List ℕ)). AreClasses m (stands (take (length o) o)) (get_or xs 0 []))
            (sym classes_is) first));
        levels = λ t low.
            let e : 0 ≡ t = omega arith in
            let here : slice_index backs 0 ≡ levels_from m o (length o - 0) =
            ap (λ (xs : List ℕ). slice_index xs 0) backs_is
            ∙ sym (ap (levels_from m o) none ∙ no_levels) in
            subst (λ (n : ℕ). slice_index backs n ≡ levels_from m o (length o - n)) e here;
        few = λ t low.
            let e : 0 ≡ t = omega arith in
            let here : slice_index backs 0 ≡ 0 = ap (λ (xs : List ℕ). slice_index xs 0) backs_is in
            subst (λ (n : ℕ). slice_index backs n ≤ 1024 * n) e (omega arith);
      }
    where
      all_zeros : (n i : ℕ) → slice_index (replicate n 0) i ≡ 0
      all_zeros zero i = refl
      all_zeros (suc n) zero = refl
      all_zeros (suc n) (suc i) = all_zeros n i

      long_zeros : (n : ℕ) → length {A = ℕ} (replicate n 0) ≡ n
      long_zeros zero = refl
      long_zeros (suc n) = ap suc (long_zeros n)

      past : (xs : List ℕ) → drop (length xs) xs ≡ []
      past [] = refl
      past (x ∷ xs) = past xs

      no_levels : levels_from m o (length o) ≡ 0
      no_levels = ap (λ (xs : List ℕ). sum_of_levels (char m) (sizes_of m) (take (length o) o) xs)
          (past o)

  pub chain_next : (t item : ℕ) (classes : List (List ℕ)) (backs : List ℕ) → t < length o
      → slice_index o (length o - 1 - t) ≡ item → AreChain m o t classes backs
      → Follows m (stands (take (length o - 1 - t) o)) item (get_or classes t [])
  chain_next t item classes backs low is chain =
      let k = length o - 1 - t in
      let lk : k < length o = omega arith in
      let up : length o - t ≡ k + 1 = omega arith in
      let before : AreClasses m (stands (take (k + 1) o)) (get_or classes t []) =
      subst (λ (n : ℕ). AreClasses m (stands (take n o)) (get_or classes t [])) up
      (chain.numbers t (omega arith)) in
      record {
        next = subst (IsNextItem m (stands (take k o))) is
            (next_item m o laws sure allowed k lk);
        too = subst
            (λ (x : ℕ). AreClasses m (fixed_too (stands (take k o)) x) (get_or classes t [])) is
            (classes_more m o laws sure allowed k (get_or classes t []) lk before);
      }

  pub chain_more : (t item : ℕ) (classes new_classes : List (List ℕ))
      (backs new_backs made : List ℕ) (here back : ℕ) → t < length o
      → slice_index o (length o - 1 - t) ≡ item → AreChain m o t classes backs
      → AreClasses m (stands (take (length o - 1 - t) o)) made
      → here ≡ set_level (char m) (sizes_of m) (stands (take (length o - 1 - t) o)) item
      → here ≤ 1024
      → back ≡ here + slice_index backs t → new_classes ≡ classes ++ made ∷ []
      → new_backs ≡ backs ++ back ∷ [] → AreChain m o (t + 1) new_classes new_backs
  chain_more t item classes new_classes backs new_backs made here back low is chain own level_is
      few sum new_is new_backs_is =
      let k = length o - 1 - t in
      let lk : k < length o = omega arith in
      let up : length o - t ≡ k + 1 = omega arith in
      let down : length o - (t + 1) ≡ k = omega arith in
      let level : here ≡ set_level (char m) (sizes_of m) (stands (take k o)) (slice_index o k) =
      level_is ∙ ap (set_level (char m) (sizes_of m) (stands (take k o))) (sym is) in
      let more = levels_more m o laws sure allowed k lk in
      let old : slice_index backs t ≡ levels_from m o (k + 1) =
      chain.levels t (omega arith) ∙ ap (levels_from m o) up in
      let whole : back ≡ levels_from m o k = omega arith in
      let l = chain.long in
      let lb = chain.long_backs in
      let old_few = chain.few t (omega arith) in
      record {
        long = let a = ap (λ (xs : List (List ℕ)). length xs) new_is in
            let b = length-append classes (made ∷ []) in omega arith;
        long_backs = let a = ap (λ (xs : List ℕ). length xs) new_backs_is in
            let b = length-append backs (back ∷ []) in omega arith;
        numbers = λ u lu.
            ⊎_elim
            (λ less. subst (AreClasses m (stands (take (length o - u) o)))
            (sym (ap (λ (xs : List (List ℕ)). get_or xs u []) new_is
            ∙ get_or_append_left classes (made ∷ []) [] u (omega arith)))
            (chain.numbers u (omega arith)))
            (λ end.
            let e : u ≡ t + 1 = omega arith in
            let f : k ≡ length o - u = omega arith in
            subst (λ (n : ℕ). AreClasses m (stands (take n o)) (get_or new_classes u [])) f
            (subst (AreClasses m (stands (take k o)))
            (sym (ap (λ (xs : List (List ℕ)). get_or xs u []) new_is
            ∙ at_end classes made [] u (omega arith))) own))
            (cases_lt u (t + 1));
        levels = λ u lu.
            ⊎_elim
            (λ less. ap (λ (xs : List ℕ). slice_index xs u) new_backs_is
            ∙ get_or_append_left backs (back ∷ []) 0 u (omega arith)
            ∙ chain.levels u (omega arith))
            (λ end.
            let f : k ≡ length o - u = omega arith in
            ap (λ (xs : List ℕ). slice_index xs u) new_backs_is
            ∙ at_end backs back 0 u (omega arith) ∙ whole ∙ ap (levels_from m o) f)
            (cases_lt u (t + 1));
        few = λ u lu.
            ⊎_elim
            (λ less. let e = ap (λ (xs : List ℕ). slice_index xs u) new_backs_is
            ∙ get_or_append_left backs (back ∷ []) 0 u (omega arith) in
            let f = chain.few u (omega arith) in omega arith)
            (λ end. let e = ap (λ (xs : List ℕ). slice_index xs u) new_backs_is
            ∙ at_end backs back 0 u (omega arith) in let f : u ≡ t + 1 = omega arith in
            omega arith)
            (cases_lt u (t + 1));
      }

  -- ---- what a chain says
  module _ (classes : List (List ℕ)) (backs : List ℕ)
      (chain : AreChain m o (length o) classes backs) where
    pub chain_classes : (j : ℕ) → j ≤ length o
        → AreClasses m (stands (take j o)) (get_or classes (length o - j) [])
    chain_classes j low = let e : length o - (length o - j) ≡ j = omega arith in
        subst (λ (n : ℕ). AreClasses m (stands (take n o)) (get_or classes (length o - j) [])) e
        (chain.numbers (length o - j) (omega arith))

    pub chain_backs : (j : ℕ) → j ≤ length o → slice_index backs (length o - j) ≡ levels_from m o j
    chain_backs j low = let e : length o - (length o - j) ≡ j = omega arith in
        chain.levels (length o - j) (omega arith) ∙ ap (levels_from m o) e

    pub chain_whole : slice_index backs (length o) ≡ levels_from m o 0
    chain_whole = let e : length o - length o ≡ 0 = omega arith in
        chain.levels (length o) (let l : length o ≤ length o = omega arith in l)
        ∙ ap (levels_from m o) e

    module _ (i : ℕ) (li : i < length o) (sized : IsTrue (are_sizes (sizes_of m))) where
      -- at its own place
      pub size_own : slice_index backs (length o) ≡ Size m (moved o i i)
      size_own =
          let whole = chain_whole in
          let start = front_start m o laws sure allowed i li i (let e : i ≤ i = omega arith in e) in
          let more = levels_more m o laws sure allowed i li in
          let after = back_end m o laws sure allowed i li i (let e : i ≤ i = omega arith in e) in
          let is = size_is m o laws sure allowed i li sized i li in
          let e : i + 1 ≡ suc i = omega arith in
          let f = ap (levels_from m o) e in
          let same : set_level (char m) (sizes_of m) (stands (take i (remove o i)))
          (slice_index o i) ≡ set_level (char m) (sizes_of m) (stands (take i o))
          (slice_index o i) =
          ap (λ (xs : List ℕ). set_level (char m) (sizes_of m) (stands xs) (slice_index o i))
          (own_low o i) in
          omega arith
        where
          own_low : (xs : List ℕ) (i : ℕ) → take i (remove xs i) ≡ take i xs
          own_low xs zero = refl
          own_low [] (suc i) = refl
          own_low (x ∷ xs) (suc i) = ap (λ (ys : List ℕ). x ∷ ys) (own_low xs i)

      -- ---- the levels before a place not after its own
      pub front_low : (j : ℕ) → j ≤ i
          → (slice_index backs (length o - j) ≤ slice_index backs (length o))
          × (slice_index backs (length o) - slice_index backs (length o - j) ≡ front_of m o i j)
      front_low j low =
          let whole = chain_whole in
          let at = chain_backs j (omega arith) in
          let start = front_start m o laws sure allowed i li j low in
          (omega arith, omega arith)

      -- ---- one place earlier
      pub record StepsBefore (j next here old_back own front : ℕ) (with_item : List ℕ) :
          Type 0 where
        pub back_is : old_back + here ≡ back_of m o i j
        pub numbers : AreClasses m (stands (take j (remove o i) ++ slice_index o i ∷ [])) with_item
        pub whole_is : front + own + (old_back + here) ≡ Size m (moved o i j)

      pub before_next : (j next : ℕ) (old : List ℕ) → j < i → Allowed m (moved o i j)
          → slice_index o j ≡ next
          → AreClasses m (stands (take (j + 1) (remove o i) ++ slice_index o i ∷ [])) old
          → Follows m (stands (take j (remove o i) ++ slice_index o i ∷ [])) next old
      before_next j next old low may is old_are =
          let l = rest_long m o laws sure allowed i li in
          let lj : j < length (remove o i) = omega arith in
          let at : slice_index (remove o i) j ≡ next =
          rest_low m o laws sure allowed i li j low ∙ is in
          let set = stands (take j (remove o i) ++ slice_index o i ∷ []) in
          record {
            next = subst (IsNextItem m set) at (next_with m o laws sure allowed i li j lj may);
            too = subst (λ (x : ℕ). AreClasses m (fixed_too set x) old) at
                (classes_with m o laws sure allowed i li j old lj old_are);
          }

      -- the item itself isn't fixed without it
      pub own_free : (j : ℕ) → j ≤ length (remove o i) → Allowed m (moved o i j)
          → stands (take j (remove o i)) (slice_index o i) ≡ false
      own_free j low may = (next_without m o laws sure allowed i li j low may).free

      pub own_classes : (j : ℕ) → j ≤ i
          → AreClasses m (stands (take j (remove o i))) (get_or classes (length o - j) [])
      own_classes j low =
          classes_before m o laws sure allowed i li j (get_or classes (length o - j) []) low
          (chain_classes j (omega arith))

      pub steps_before : (j next here old_back own front : ℕ) (with_item : List ℕ) → j < i
          → slice_index o j ≡ next → old_back ≡ back_of m o i (j + 1)
          → AreClasses m (stands (take j (remove o i) ++ slice_index o i ∷ [])) with_item
          → here ≡ set_level (char m) (sizes_of m)
          (stands (take j (remove o i) ++ slice_index o i ∷ [])) next
          → own ≡ set_level (char m) (sizes_of m) (stands (take j (remove o i))) (slice_index o i)
          → front ≡ front_of m o i j → StepsBefore j next here old_back own front with_item
      steps_before j next here old_back own front with_item low is back_is made level_is own_level
          front_is =
          let l = rest_long m o laws sure allowed i li in
          let lj : j < length (remove o i) = omega arith in
          let at : slice_index (remove o i) j ≡ next =
          rest_low m o laws sure allowed i li j low ∙ is in
          let set = stands (take j (remove o i) ++ slice_index o i ∷ []) in
          let level : here ≡ set_level (char m) (sizes_of m) set (slice_index (remove o i) j) =
          level_is ∙ ap (set_level (char m) (sizes_of m) set) (sym at) in
          let step = back_step m o laws sure allowed i li j lj in
          let whole = size_is m o laws sure allowed i li sized j (omega arith) in
          record {
            back_is = omega arith;
            numbers = made;
            whole_is = omega arith;
          }

      pub start_with : AreClasses m (stands (take i (remove o i) ++ slice_index o i ∷ []))
          (get_or classes (length o - 1 - i) [])
      start_with =
          let e : length o - suc i ≡ length o - 1 - i = omega arith in
          classes_start m o laws sure allowed i li i (get_or classes (length o - 1 - i) [])
          (let h : i ≤ i = omega arith in h)
          (subst (λ (n : ℕ). AreClasses m (stands (take (suc i) o)) (get_or classes n [])) e
          (chain_classes (suc i) (omega arith)))

      pub back_high : (j : ℕ) → i ≤ j → j < length o
          → slice_index backs (length o - 1 - j) ≡ back_of m o i j
      back_high j high low =
          let e : length o - suc j ≡ length o - 1 - j = omega arith in
          ap (slice_index backs) (sym e) ∙ chain_backs (suc j) (omega arith)
          ∙ sym (back_end m o laws sure allowed i li j high)

      -- ---- one place later
      pub record StepsAfter (j here old_front own back : ℕ) (without_item : List ℕ) : Type 0 where
        pub front_is : old_front + here ≡ front_of m o i j
        pub numbers : AreClasses m (stands (take j (remove o i))) without_item
        pub whole_is : (old_front + here) + own + back ≡ Size m (moved o i j)

      -- the next item after it
      pub next_after : (j next : ℕ) → i < j → j < length o → slice_index o j ≡ next
          → slice_index (remove o i) (j - 1) ≡ next
      next_after j next high low is =
          let up : j - 1 + 1 ≡ j = omega arith in
          rest_high m o laws sure allowed i li (j - 1) (omega arith) ∙ ap (slice_index o) up ∙ is

      pub after_free : (j next : ℕ) → i < j → j < length o → Allowed m (moved o i (j - 1))
          → slice_index o j ≡ next → stands (take (j - 1) (remove o i)) next ≡ false
      after_free j next high low may is =
          let l = rest_long m o laws sure allowed i li in
          subst (λ (x : ℕ). stands (take (j - 1) (remove o i)) x ≡ false)
          (next_after j next high low is)
          (free_without m o laws sure allowed i li (j - 1) (omega arith) may)

      -- and stands before the next place
      pub after_more : (j next w : ℕ) → i < j → j < length o → slice_index o j ≡ next
          → fixed_too (stands (take (j - 1) (remove o i))) next w ≡ stands (take j (remove o i)) w
      after_more j next w high low is =
          let l = rest_long m o laws sure allowed i li in
          let p = j - 1 in
          let up : p + 1 ≡ j = omega arith in
          let at = next_after j next high low is in
          sym (ap (λ (n : ℕ). stands (take n (remove o i)) w) (sym up)
          ∙ ap (λ (xs : List ℕ). stands xs w) (take_more (remove o i) p 0 (omega arith))
          ∙ stands_more (take p (remove o i)) (slice_index (remove o i) p) w
          ∙ ap (λ (x : ℕ). fixed_too (stands (take p (remove o i))) x w) at)

      pub after_next : (j : ℕ) → i < j → j < length o → Allowed m (moved o i j)
          → Follows m (stands (take j (remove o i))) (slice_index o i)
          (get_or classes (length o - 1 - j) [])
      after_next j high low may =
          let l = rest_long m o laws sure allowed i li in
          let e : length o - suc j ≡ length o - 1 - j = omega arith in
          let all = subst (λ (n : ℕ). AreClasses m (stands (take (suc j) o)) (get_or classes n []))
          e (chain_classes (suc j) (omega arith)) in
          record {
            next = next_without m o laws sure allowed i li j (omega arith) may;
            too = classes_without m o laws sure allowed i li j
                (get_or classes (length o - 1 - j) []) (omega arith) all;
          }

      pub steps_after : (j next here old_front own back : ℕ) (without_item : List ℕ) → i < j
          → j < length o → slice_index o j ≡ next → old_front ≡ front_of m o i (j - 1)
          → here ≡ set_level (char m) (sizes_of m) (stands (take (j - 1) (remove o i))) next
          → AreClasses m (stands (take j (remove o i))) without_item
          → own ≡ set_level (char m) (sizes_of m) (stands (take j (remove o i))) (slice_index o i)
          → back ≡ slice_index backs (length o - 1 - j)
          → StepsAfter j here old_front own back without_item
      steps_after j next here old_front own back without_item high low is front_is level_is made
          own_level back_is =
          let l = rest_long m o laws sure allowed i li in
          let p = j - 1 in
          let up : p + 1 ≡ j = omega arith in
          let lp : p < length (remove o i) = omega arith in
          let at = next_after j next high low is in
          let level : here ≡ set_level (char m) (sizes_of m) (stands (take p (remove o i)))
          (slice_index (remove o i) p) = level_is
          ∙ ap (set_level (char m) (sizes_of m) (stands (take p (remove o i)))) (sym at) in
          let step = front_step m o laws sure allowed i li p lp in
          let same = ap (front_of m o i) up in
          let after = back_high j (omega arith) low in
          let whole = size_is m o laws sure allowed i li sized j low in
          record {
            front_is = omega arith;
            numbers = made;
            whole_is = omega arith;
          }

      pub start_without : AreClasses m (stands (take i (remove o i)))
          (get_or classes (length o - i) [])
      start_without =
          classes_before m o laws sure allowed i li i (get_or classes (length o - i) [])
          (let h : i ≤ i = omega arith in h) (chain_classes i (omega arith))
