-- The levels of an order, and of the same order with one item at another place.
use Rattle.std.proofs.Common.{◌≡◌, ℕ, zero, suc, ◌+◌, ◌<◌, ◌≤◌, Bool, true, false, ◌||◌, eqb, List, [], ◌∷◌, ◌++◌, length, take, drop, slice_index, refl, ap, sym, ◌∙◌, arith, subst}
use Rattle.std.specs.Prelude.{IsTrue}
use Rattle.std.specs.List.{insert, remove}
use Rattle.std.proofs.lemmas.List.{take_more, drop_more, take-append-drop}
use Rattle.std.proofs.lemmas.List.Edits.{length-remove, get_or-insert_at, get_or-insert_above, get_or-remove_below, get_or-remove_above}
use Rattle.domains.specs.Tables.{are_sizes}
use Rattle.transition_table.specs.declared.machine.Machine.{Machine}
use Rattle.transition_table.specs.Computed.{char}
use Rattle.transition_table.specs.Orders.{Allowed, sizes_of}
use Rattle.transition_table.specs.Transitions.{IsDeterministic}
use Rattle.decision_diagram.specs.Sets.{stands, set_level, sum_of_levels}
use Rattle.char_function.specs.Sizes.{Size}
use Rattle.order_sift.specs.inner.Below.{BelowOrders}
use Rattle.order_sift.specs.inner.Chains.{levels_from}
use Rattle.order_sift.specs.inner.Classes.{AreClasses, IsNextItem, fixed_too}
use Rattle.order_sift.specs.Moves.{moved}
use Rattle.order_sift.proofs.Levels.{levels_join, levels_after, size_with_item}
use Rattle.char_function.proofs.AreSupports.{stands_both}
use Rattle.order_sift.proofs.MovedPlaces.{length_moved, moved_permutation}
use Rattle.order_sift.proofs.Prefixes.{next_of, stands_insert}
use Rattle.polis_base.proofs.Bools.{neither_first, or_none, or_swap as swap_last}

-- ---- sets
or_swap : (a b : Bool) → (a || b) ≡ (b || a)
or_swap true true = refl
or_swap true false = refl
or_swap false true = refl
or_swap false false = refl

-- one more number stands at the end
pub stands_more : (xs : List ℕ) (x w : ℕ) → stands (xs ++ x ∷ []) w ≡ (stands xs w || eqb x w)
stands_more xs x w = stands_both xs (x ∷ []) w ∙ ap (λ b. stands xs w || b) (or_none (eqb x w))

-- sets with the same items have the same numbers
pub same_classes : (m : Machine) (one other : ℕ → Bool) (classes : List ℕ)
    → ((w : ℕ) → one w ≡ other w) → AreClasses m one classes → AreClasses m other classes
same_classes m one other classes same are =
    subst (λ (set : ℕ → Bool). AreClasses m set classes) (λ i w. same w i) are

pub same_next : (m : Machine) (one other : ℕ → Bool) (x y : ℕ) → ((w : ℕ) → one w ≡ other w) → x ≡ y
    → IsNextItem m one x → IsNextItem m other y
same_next m one other x y same is next =
    subst (IsNextItem m other) is
    (subst (λ (set : ℕ → Bool). IsNextItem m set x) (λ i w. same w i) next)

-- ---- without one item
pub take_low : (xs : List ℕ) (i j : ℕ) → j ≤ i → take j (remove xs i) ≡ take j xs
take_low xs i zero low = refl
take_low [] zero (suc j) low = absurd (omega arith)
take_low [] (suc i) (suc j) low = refl
take_low (x ∷ xs) zero (suc j) low = absurd (omega arith)
take_low (x ∷ xs) (suc i) (suc j) low = ap (λ (ys : List ℕ). x ∷ ys) (take_low xs i j (omega arith))

drop_high : (xs : List ℕ) (i j : ℕ) → i ≤ j → drop j (remove xs i) ≡ drop (suc j) xs
drop_high [] zero zero high = refl
drop_high [] (suc i) zero high = absurd (omega arith)
drop_high [] zero (suc j) high = refl
drop_high [] (suc i) (suc j) high = refl
drop_high (x ∷ xs) zero j high = refl
drop_high (x ∷ xs) (suc i) zero high = absurd (omega arith)
drop_high (x ∷ xs) (suc i) (suc j) high = drop_high xs i j (omega arith)

-- with it again the same items stand before
stands_high : (xs : List ℕ) (i j w : ℕ) → i ≤ j → i < length xs
    → (stands (take j (remove xs i)) w || eqb (slice_index xs i) w) ≡ stands (take (suc j) xs) w
stands_high [] i j w high low = absurd (omega arith)
stands_high (x ∷ xs) zero j w high low = or_swap (stands (take j xs) w) (eqb x w)
stands_high (x ∷ xs) (suc i) zero w high low = absurd (omega arith)
stands_high (x ∷ xs) (suc i) (suc j) w high low =
    assoc (eqb x w) (stands (take j (remove xs i)) w) (eqb (slice_index xs i) w)
    ∙ ap (λ b. eqb x w || b) (stands_high xs i j w (omega arith) (omega arith))
  where
    assoc : (a b c : Bool) → ((a || b) || c) ≡ (a || (b || c))
    assoc true b c = refl
    assoc false b c = refl

take_insert : (xs : List ℕ) (j x : ℕ) → j ≤ length xs → take j (insert xs j x) ≡ take j xs
take_insert xs zero x low = refl
take_insert [] (suc j) x low = absurd (omega arith)
take_insert (y ∷ xs) (suc j) x low = ap (λ (ys : List ℕ). y ∷ ys) (take_insert xs j x (omega arith))

-- the levels before a place without the item at place i, and those after it with the item
abbrev pub front_of : Machine → List ℕ → ℕ → ℕ → ℕ
front_of m o i j = sum_of_levels (char m) (sizes_of m) [] (take j (remove o i))

abbrev pub back_of : Machine → List ℕ → ℕ → ℕ → ℕ
back_of m o i j =
    sum_of_levels (char m) (sizes_of m) (take j (remove o i) ++ slice_index o i ∷ [])
    (drop j (remove o i))

module _ (m : Machine) (o : List ℕ) (laws : BelowOrders) (sure : IsDeterministic m)
    (allowed : Allowed m o) where
  -- ---- from place to place of the order
  pub next_item : (k : ℕ) → k < length o → IsNextItem m (stands (take k o)) (slice_index o k)
  next_item k low =
      next_of m o k laws.have_places laws.one_place laws.support_by_test sure allowed low

  fixed_more : (k w : ℕ) → k < length o
      → stands (take (k + 1) o) w ≡ fixed_too (stands (take k o)) (slice_index o k) w
  fixed_more k w low = ap (λ (xs : List ℕ). stands xs w) (take_more o k 0 low)
      ∙ stands_more (take k o) (slice_index o k) w

  pub classes_more : (k : ℕ) (classes : List ℕ) → k < length o
      → AreClasses m (stands (take (k + 1) o)) classes
      → AreClasses m (fixed_too (stands (take k o)) (slice_index o k)) classes
  classes_more k classes low are =
      same_classes m (stands (take (k + 1) o)) (fixed_too (stands (take k o)) (slice_index o k))
      classes (λ w. fixed_more k w low) are

  pub levels_more : (k : ℕ) → k < length o
      → levels_from m o k ≡ set_level (char m) (sizes_of m) (stands (take k o)) (slice_index o k)
      + levels_from m o (k + 1)
  levels_more k low =
      ap (λ (xs : List ℕ). sum_of_levels (char m) (sizes_of m) (take k o) xs) (drop_more o k 0 low)
      ∙ ap (λ (xs : List ℕ). set_level (char m) (sizes_of m) (stands (take k o)) (slice_index o k)
      + sum_of_levels (char m) (sizes_of m) xs (drop (k + 1) o)) (sym (take_more o k 0 low))

  -- ---- the item at place i at another one
  module _ (i : ℕ) (li : i < length o) where
    abbrev rest : List ℕ
    rest = remove o i

    abbrev item : ℕ
    item = slice_index o i

    abbrev front : ℕ → ℕ
    front j = front_of m o i j

    abbrev back : ℕ → ℕ
    back j = back_of m o i j

    pub rest_long : length rest + 1 ≡ length o
    rest_long = length-remove o i li

    pub rest_low : (j : ℕ) → j < i → slice_index rest j ≡ slice_index o j
    rest_low j low = get_or-remove_below o i 0 j low li

    pub rest_high : (j : ℕ) → i ≤ j → slice_index rest j ≡ slice_index o (j + 1)
    rest_high j high = get_or-remove_above o i 0 j high li

    pub size_is : IsTrue (are_sizes (sizes_of m)) → (j : ℕ) → j < length o
        → Size m (moved o i j)
        ≡ front j + (set_level (char m) (sizes_of m) (stands (take j rest)) item + back j)
    size_is sized j lj =
        size_with_item laws.size_by_sets (char m) (sizes_of m) rest item j
        (moved_permutation o i j li lj allowed.permutation)
        (length_moved o i j li lj ∙ allowed.long) sized

    -- ---- what is freed next
    pub next_with : (j : ℕ) → j < length rest → Allowed m (moved o i j)
        → IsNextItem m (stands (take j rest ++ item ∷ [])) (slice_index rest j)
    next_with j low may =
        let l = rest_long in
        let long = length_moved o i j li (omega arith) in
        let next = next_of m (moved o i j) (suc j) laws.have_places laws.one_place
        laws.support_by_test sure may (omega arith) in
        let e : suc j ≡ j + 1 = omega arith in
        same_next m (stands (take (suc j) (moved o i j))) (stands (take j rest ++ item ∷ []))
        (slice_index (moved o i j) (suc j)) (slice_index rest j)
        (λ w. stands_insert rest j j item w (omega arith) (omega arith)
        ∙ or_swap (eqb item w) (stands (take j rest) w)
        ∙ sym (stands_more (take j rest) item w))
        (ap (slice_index (moved o i j)) e ∙ get_or-insert_above rest j item 0 j (omega arith)
        (omega arith))
        next

    pub next_without : (j : ℕ) → j ≤ length rest → Allowed m (moved o i j)
        → IsNextItem m (stands (take j rest)) item
    next_without j low may =
        let l = rest_long in
        let long = length_moved o i j li (omega arith) in
        let next = next_of m (moved o i j) j laws.have_places laws.one_place laws.support_by_test
        sure may (omega arith) in
        same_next m (stands (take j (moved o i j))) (stands (take j rest))
        (slice_index (moved o i j) j) item
        (λ w. ap (λ (xs : List ℕ). stands xs w) (take_insert rest j item low))
        (get_or-insert_at rest j item 0 low)
        next

    -- and isn't fixed without the item
    pub free_without : (j : ℕ) → j < length rest → Allowed m (moved o i j)
        → stands (take j rest) (slice_index rest j) ≡ false
    free_without j low may =
        let r = slice_index rest j in
        neither_first (stands (take j rest) r) (eqb item r)
        (sym (stands_more (take j rest) item r) ∙ (next_with j low may).free)

    -- ---- numbers
    pub classes_with : (j : ℕ) (classes : List ℕ) → j < length rest
        → AreClasses m (stands (take (j + 1) rest ++ item ∷ [])) classes
        → AreClasses m (fixed_too (stands (take j rest ++ item ∷ [])) (slice_index rest j)) classes
    classes_with j classes low are =
        let r = slice_index rest j in
        same_classes m (stands (take (j + 1) rest ++ item ∷ []))
        (fixed_too (stands (take j rest ++ item ∷ [])) r) classes
        (λ w.
        ap (λ (xs : List ℕ). stands (xs ++ item ∷ []) w) (take_more rest j 0 low)
        ∙ stands_more (take j rest ++ r ∷ []) item w
        ∙ ap (λ b. b || eqb item w) (stands_more (take j rest) r w)
        ∙ swap_last (stands (take j rest) w) (eqb r w) (eqb item w)
        ∙ ap (λ b. b || eqb r w) (sym (stands_more (take j rest) item w)))
        are

    with_own : (j w : ℕ) → i ≤ j → stands (take j rest ++ item ∷ []) w ≡ stands (take (suc j) o) w
    with_own j w high = stands_more (take j rest) item w ∙ stands_high o i j w high li

    pub classes_start : (j : ℕ) (classes : List ℕ) → i ≤ j
        → AreClasses m (stands (take (suc j) o)) classes
        → AreClasses m (stands (take j rest ++ item ∷ [])) classes
    classes_start j classes high are =
        same_classes m (stands (take (suc j) o)) (stands (take j rest ++ item ∷ [])) classes
        (λ w. sym (with_own j w high)) are

    pub classes_without : (j : ℕ) (classes : List ℕ) → i ≤ j
        → AreClasses m (stands (take (suc j) o)) classes
        → AreClasses m (fixed_too (stands (take j rest)) item) classes
    classes_without j classes high are =
        same_classes m (stands (take (suc j) o)) (fixed_too (stands (take j rest)) item) classes
        (λ w. sym (stands_high o i j w high li)) are

    pub classes_before : (j : ℕ) (classes : List ℕ) → j ≤ i
        → AreClasses m (stands (take j o)) classes → AreClasses m (stands (take j rest)) classes
    classes_before j classes low are =
        subst (λ (xs : List ℕ). AreClasses m (stands xs) classes) (sym (take_low o i j low)) are

    -- ---- levels
    pub back_step : (j : ℕ) → j < length rest
        → back j ≡ set_level (char m) (sizes_of m) (stands (take j rest ++ item ∷ []))
        (slice_index rest j) + back (j + 1)
    back_step j low =
        let r = slice_index rest j in
        let first = ap (λ (xs : List ℕ). sum_of_levels (char m) (sizes_of m)
        (take j rest ++ item ∷ []) xs) (drop_more rest j 0 low) in
        let later =
        levels_after (char m) (sizes_of m) ((take j rest ++ item ∷ []) ++ r ∷ [])
        (take (j + 1) rest ++ item ∷ []) (drop (j + 1) rest) (λ w.
        stands_more (take j rest ++ item ∷ []) r w
        ∙ ap (λ b. b || eqb r w) (stands_more (take j rest) item w)
        ∙ swap_last (stands (take j rest) w) (eqb item w) (eqb r w)
        ∙ ap (λ b. b || eqb item w) (sym (stands_more (take j rest) r w))
        ∙ sym (stands_more (take j rest ++ r ∷ []) item w)
        ∙ ap (λ (xs : List ℕ). stands (xs ++ item ∷ []) w) (sym (take_more rest j 0 low)))
        in
        first ∙ ap (λ n. set_level (char m) (sizes_of m) (stands (take j rest ++ item ∷ [])) r
        + n) later

    pub front_step : (j : ℕ) → j < length rest
        → front (j + 1) ≡ front j + set_level (char m) (sizes_of m) (stands (take j rest))
        (slice_index rest j)
    front_step j low =
        let r = slice_index rest j in
        let first = ap (λ (xs : List ℕ). sum_of_levels (char m) (sizes_of m) [] xs)
        (take_more rest j 0 low) in
        let both = levels_join (char m) (sizes_of m) [] (take j rest) (r ∷ []) in
        omega arith

    pub back_end : (j : ℕ) → i ≤ j → back j ≡ levels_from m o (suc j)
    back_end j high =
        levels_after (char m) (sizes_of m) (take j rest ++ item ∷ []) (take (suc j) o) (drop j rest)
        (λ w. with_own j w high)
        ∙ ap (λ (xs : List ℕ). sum_of_levels (char m) (sizes_of m) (take (suc j) o) xs)
        (drop_high o i j high)

    pub front_start : (j : ℕ) → j ≤ i → front j + levels_from m o j ≡ levels_from m o 0
    front_start j low =
        let same = ap (λ (xs : List ℕ). sum_of_levels (char m) (sizes_of m) [] xs)
        (take_low o i j low) in
        let both = levels_join (char m) (sizes_of m) [] (take j o) (drop j o) in
        let whole = ap (λ (xs : List ℕ). sum_of_levels (char m) (sizes_of m) [] xs)
        (take-append-drop j o) in
        omega arith
