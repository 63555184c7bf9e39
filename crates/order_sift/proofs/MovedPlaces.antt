-- Where items stand after a move.
use Rattle.std.proofs.Common.{◌≡◌, ⊎_elim, ℕ, ◌+◌, ◌-◌, ◌<◌, ◌≤◌, cond, eqb, ltb, List, length, slice_index, refl, ap, sym, ◌∙◌, arith}
use Rattle.std.specs.List.{remove}
use Rattle.std.proofs.lemmas.Bool.{cases_lt, cases_order, lt-ltb, le-ltb, eq-eqb, ne_eqb}
use Rattle.std.proofs.lemmas.Bool.Decides.{nat_tests}
use Rattle.std.proofs.lemmas.List.Edits.{length-insert, length-remove, get_or-insert_below, get_or-insert_at, get_or-insert_above, get_or-remove_below, get_or-remove_above}
use Rattle.domains.specs.Orders.{IsPermutation, place, HavePlaces, OnePlace}
use Rattle.order_sift.specs.Moves.{moved}

-- the place before an item was taken out at i
abbrev pub past : ℕ → ℕ → ℕ
past i u = cond (ltb u i) u (u + 1)

-- the place after an item was taken out at i
abbrev pub without : ℕ → ℕ → ℕ
without i k = cond (ltb i k) (k - 1) k

-- where what stood at k stands after the move from i to j
abbrev pub shift : ℕ → ℕ → ℕ → ℕ
shift j i k = cond (eqb k i) j (past j (without i k))

past_low : (i u : ℕ) → u < i → past i u ≡ u
past_low i u low = ap (λ b. cond b u (u + 1)) (lt-ltb u i low)

past_high : (i u : ℕ) → i ≤ u → past i u ≡ u + 1
past_high i u high = ap (λ b. cond b u (u + 1)) (le-ltb u i high)

without_low : (i k : ℕ) → k ≤ i → without i k ≡ k
without_low i k low = ap (λ b. cond b (k - 1) k) (le-ltb i k low)

without_high : (i k : ℕ) → i < k → without i k ≡ k - 1
without_high i k high = ap (λ b. cond b (k - 1) k) (lt-ltb i k high)

pub shift_here : (j i : ℕ) → shift j i i ≡ j
shift_here j i = ap (λ b. cond b j (past j (without i i))) (eq-eqb i i refl)

pub shift_else : (j i k : ℕ) → (k ≡ i → ⊥) → shift j i k ≡ past j (without i k)
shift_else j i k other = ap (λ b. cond b j (past j (without i k))) (ne_eqb k i other)

-- one more than the place before which the item would stand, or the same
pub shift_low : (j i k : ℕ) → k < i → (shift j i k < j → k < j) × (k < j → shift j i k < j)
shift_low j i k low =
    let e = shift_else j i k (λ same. omega arith) in
    let w = without_low i k (omega arith) in
    ⊎_elim
    (λ less. let p = past_low j k less in let t : shift j i k ≡ k = e ∙ ap (past j) w ∙ p in
    ((λ h. less), (λ h. omega arith)))
    (λ more. let p = past_high j k more in let t : shift j i k ≡ k + 1 = e ∙ ap (past j) w ∙ p in
    ((λ h. absurd (omega arith)), (λ h. absurd (omega arith))))
    (cases_lt k j)

pub shift_high : (j i k : ℕ) → i < k → (j < shift j i k → j < k) × (j < k → j < shift j i k)
shift_high j i k high =
    let e = shift_else j i k (λ same. omega arith) in
    let w = without_high i k high in
    ⊎_elim
    (λ less. let p = past_low j (k - 1) less in
    let t : shift j i k ≡ k - 1 = e ∙ ap (past j) w ∙ p in
    ((λ h. omega arith), (λ h. absurd (omega arith))))
    (λ more. let p = past_high j (k - 1) more in
    let t : shift j i k ≡ k - 1 + 1 = e ∙ ap (past j) w ∙ p in
    ((λ h. omega arith), (λ h. omega arith)))
    (cases_lt (k - 1) j)

past_rises : (j u v : ℕ) → u < v → past j u < past j v
past_rises j u v less = grind (arith, nat_tests)

without_rises : (i a b : ℕ) → (a ≡ i → ⊥) → (b ≡ i → ⊥) → a < b → without i a < without i b
without_rises i a b one other less = grind (arith, nat_tests)

-- the others keep their order
pub shift_rises : (j i a b : ℕ) → (a ≡ i → ⊥) → (b ≡ i → ⊥) → a < b → shift j i a < shift j i b
shift_rises j i a b one other less =
    let p = past_rises j (without i a) (without i b) (without_rises i a b one other less) in
    let e = shift_else j i a one in
    let f = shift_else j i b other in
    omega arith

pub shift_apart : (j i a b : ℕ) → (a ≡ b → ⊥) → shift j i a ≡ shift j i b → ⊥
shift_apart j i a b apart same = grind (arith, nat_tests)

pub shift_below : (j i k n : ℕ) → i < n → j < n → k < n → shift j i k < n
shift_below j i k n li lj lk = grind (arith, nat_tests)

pub shift_back : (i j k : ℕ) → shift i j (shift j i k) ≡ k
shift_back i j k = grind (arith, nat_tests)

module _ (order : List ℕ) (i j : ℕ) (li : i < length order) (lj : j < length order) where
  long_rest : length (remove order i) + 1 ≡ length order
  long_rest = length-remove order i li

  pub length_moved : length (moved order i j) ≡ length order
  length_moved = let a = long_rest in
      let b = length-insert (remove order i) j (slice_index order i) (omega arith) in omega arith

  at_rest : (u : ℕ) → slice_index (remove order i) u ≡ slice_index order (past i u)
  at_rest u =
      ⊎_elim
      (λ low. get_or-remove_below order i 0 u low li
      ∙ ap (slice_index order) (sym (past_low i u low)))
      (λ high. get_or-remove_above order i 0 u high li
      ∙ ap (slice_index order) (sym (past_high i u high)))
      (cases_lt u i)

  pub moved_at : (k : ℕ) → slice_index (moved order i j) k ≡ slice_index order (shift i j k)
  moved_at k =
      let a = long_rest in
      let fits : j ≤ length (remove order i) = omega arith in
      let x = slice_index order i in
      ⊎_elim
      (λ here. ap (slice_index (moved order i j)) here
      ∙ get_or-insert_at (remove order i) j x 0 fits
      ∙ ap (slice_index order) (sym (ap (shift i j) here ∙ shift_here i j)))
      (⊎_elim
      (λ low.
      get_or-insert_below (remove order i) j x 0 k low fits
      ∙ at_rest k
      ∙ ap (slice_index order)
      (sym (shift_else i j k (λ same. omega arith)
      ∙ ap (past i) (without_low j k (omega arith)))))
      (λ high.
      let e : k ≡ (k - 1) + 1 = omega arith in
      let w : without j k ≡ k - 1 = without_high j k high in
      ap (slice_index (moved order i j)) e
      ∙ get_or-insert_above (remove order i) j x 0 (k - 1) (omega arith) fits
      ∙ at_rest (k - 1)
      ∙ ap (slice_index order) (sym (shift_else i j k (λ same. omega arith) ∙ ap (past i) w))))
      (cases_order k j)

  pub moved_permutation : IsPermutation order → IsPermutation (moved order i j)
  moved_permutation perm =
      let n = length_moved in
      record {
        below = λ k lk.
            let e = moved_at k in
            let s : shift i j k < length order =
            shift_below i j k (length order) lj li (omega arith) in
            let b = perm.below (shift i j k) s in
            omega arith;
        distinct = λ a b less lb same.
            let apart = shift_apart i j a b (λ e. omega arith) in
            let sa : shift i j a < length order =
            shift_below i j a (length order) lj li (omega arith) in
            let sb : shift i j b < length order =
            shift_below i j b (length order) lj li (omega arith) in
            let equal : slice_index order (shift i j a) ≡ slice_index order (shift i j b) =
            sym (moved_at a) ∙ same ∙ moved_at b in
            ⊎_elim
            (λ e. apart e)
            (⊎_elim
            (λ low. perm.distinct (shift i j a) (shift i j b) low sb equal)
            (λ high. perm.distinct (shift i j b) (shift i j a) high sa (sym equal)))
            (cases_order (shift i j a) (shift i j b));
      }

  -- what stood at a place stands at the shifted one
  pub moved_place : HavePlaces → OnePlace → IsPermutation order → (w : ℕ) → w < length order
      → place (moved order i j) w ≡ shift j i (place order w)
  moved_place have one perm w lw =
      let there = have order w perm lw in
      let p = place order w in
      let k = shift j i p in
      let lk : k < length order = shift_below j i p (length order) li lj there.0 in
      let n = length_moved in
      let at : slice_index (moved order i j) k ≡ w =
      moved_at k ∙ ap (slice_index order) (shift_back i j p) ∙ there.1 in
      ap (place (moved order i j)) (sym at)
      ∙ one (moved order i j) k (moved_permutation perm) (omega arith)
