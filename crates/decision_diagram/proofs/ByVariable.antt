-- Reading codes that stand in the order's order.
use Rattle.std.proofs.Common.{◌≡◌, ⊎_elim, ℕ, zero, suc, ◌<◌, Bool, true, List, ◌∷◌, ◌++◌, map, length, slice_index, refl, ap, sym, ◌∙◌, arith, eqb, ltb, []}
use Rattle.std.proofs.lemmas.Bool.{and_from, lt-ltb, cases_lt}
use Rattle.std.proofs.lemmas.Grind.{same_number_lists}
use Rattle.polis_base.specs.Lists.{upto}
use Rattle.domains.specs.Tables.{fits}
use Rattle.domains.specs.Orders.{IsPermutation, place}
use Rattle.decision_diagram.specs.Diagrams.{Diagrams, Node, inner_at, step, follow, AreReduced, Means}
use Rattle.decision_diagram.specs.Sizes.{by_variable}
use Rattle.decision_diagram.proofs.Fits.{fits_at}
use Rattle.domains.proofs.Places.{place_of_item, place_below, at_place}
use Rattle.domains.proofs.Ranks.{length_fits}
use Rattle.domains.proofs.FittingCodes.{fits_from}
use Rattle.polis_base.proofs.Places.{index_append, length_map}
use Rattle.polis_base.proofs.UptoPlaces.{length_upto}

-- where one comes to from n by the codes of the variables, one code for each
abbrev pub along : List Node → List ℕ → List ℕ → ℕ → ℕ
along nodes [] codes n = n
along nodes (var ∷ vars) [] n = n
along nodes (var ∷ vars) (code ∷ codes) n =
    along nodes vars codes (step (inner_at nodes n) var code n)

pub follow_along : (nodes : List Node) (vars codes : List ℕ) (n : ℕ)
    → follow nodes vars codes n ≡ along nodes vars (map (slice_index codes) vars) n
follow_along nodes [] codes n = refl
follow_along nodes (var ∷ vars) codes n =
    follow_along nodes vars codes (step (inner_at nodes n) var (slice_index codes var) n)

pub along_append : (nodes : List Node) (xs ys p q : List ℕ) (n : ℕ) → length p ≡ length xs
    → along nodes (xs ++ ys) (p ++ q) n ≡ along nodes ys q (along nodes xs p n)
along_append nodes [] ys [] q n e = refl
along_append nodes [] ys (c ∷ p) q n e = absurd (omega arith)
along_append nodes (x ∷ xs) ys [] q n e = absurd (omega arith)
along_append nodes (x ∷ xs) ys (c ∷ p) q n e =
    along_append nodes xs ys p q (step (inner_at nodes n) x c n) (omega arith)

-- ---- lists by places
pub index_map : (f : ℕ → ℕ) (xs : List ℕ) (j : ℕ) → j < length xs
    → slice_index (map f xs) j ≡ f (slice_index xs j)
index_map f [] j low = absurd (omega arith)
index_map f (x ∷ xs) zero low = refl
index_map f (x ∷ xs) (suc j) low = index_map f xs j (omega arith)

pub item_at : (xs ys : List ℕ) (v : ℕ) → slice_index (xs ++ v ∷ ys) (length xs) ≡ v
item_at [] ys v = refl
item_at (x ∷ xs) ys v = item_at xs ys v

pub index_upto : (n j : ℕ) → j < n → slice_index (upto n) j ≡ j
index_upto zero j low = absurd (omega arith)
index_upto (suc n) j low =
    let l = length_upto n in
    ⊎_elim
    (λ less. index_append (upto n) (n ∷ []) j (omega arith) ∙ index_upto n j less)
    (λ more. let e : j ≡ length (upto n) = omega arith in rw e (item_at (upto n) [] n ∙ sym l))
    (cases_lt j n)

-- ---- codes by variable
pub by_variable_at : (order codes : List ℕ) → IsPermutation order → (v : ℕ) → v < length order
    → slice_index (by_variable order codes) v ≡ slice_index codes (place order v)
by_variable_at order codes perm v low =
    let l = length_upto (length order) in
    index_map (λ w. slice_index codes (place order w)) (upto (length order)) v (omega arith)
    ∙ ap (λ (w : ℕ). slice_index codes (place order w)) (index_upto (length order) v low)

pub by_variable_back : (order codes : List ℕ) → IsPermutation order → length codes ≡ length order
    → map (slice_index (by_variable order codes)) order ≡ codes
by_variable_back order codes perm long =
    let l = length_map (slice_index (by_variable order codes)) order in
    same_number_lists (map (slice_index (by_variable order codes)) order) codes (omega arith)
    (λ j low.
    let inside : j < length order = omega arith in
    index_map (slice_index (by_variable order codes)) order j inside
    ∙ by_variable_at order codes perm (slice_index order j) (perm.below j inside)
    ∙ ap (slice_index codes) (place_of_item order perm j inside))

pub by_variable_fits : (sizes order codes : List ℕ) → IsPermutation order
    → length order ≡ length sizes → fits (map (slice_index sizes) order) codes ≡ true
    → fits sizes (by_variable order codes) ≡ true
by_variable_fits sizes order codes perm lengths fit =
    let l = length_map (slice_index sizes) order in
    let long = length_map (λ w. slice_index codes (place order w)) (upto (length order)) in
    let longer = length_upto (length order) in
    fits_from sizes (by_variable order codes) (omega arith) (λ v low.
    let inside : v < length order = omega arith in
    let within = place_below order perm v inside in
    let e = by_variable_at order codes perm v inside in
    let below = fits_at (map (slice_index sizes) order) codes fit (place order v) (omega arith) in
    let f = index_map (slice_index sizes) order (place order v) within in
    let g : slice_index sizes (slice_index order (place order v)) ≡ slice_index sizes v =
    ap (slice_index sizes) (at_place order v within) in
    omega arith)

-- the codes of some variables
pub chosen_fits : (sizes codes vars : List ℕ) → fits sizes codes ≡ true
    → ((j : ℕ) → j < length vars → slice_index vars j < length sizes)
    → fits (map (slice_index sizes) vars) (map (slice_index codes) vars) ≡ true
chosen_fits sizes codes [] fit low = refl
chosen_fits sizes codes (v ∷ vs) fit low =
    and_from (ltb (slice_index codes v) (slice_index sizes v))
    (fits (map (slice_index sizes) vs) (map (slice_index codes) vs))
    (lt-ltb (slice_index codes v) (slice_index sizes v)
    (fits_at sizes codes fit v (low 0 (omega arith))))
    (chosen_fits sizes codes vs fit (λ j less. low (suc j) (omega arith)))

-- the root's value, read along the order
pub along_value : (s : Diagrams) → AreReduced s → (root : ℕ) (f : List ℕ → Bool) → Means s root f
    → (codes : List ℕ) → fits (map (slice_index s.sizes) s.order) codes ≡ true
    → f (by_variable s.order codes) ≡ eqb (along s.nodes s.order codes root) 1
along_value s ok root f means codes fit =
    let long = length_fits (map (slice_index s.sizes) s.order) codes fit in
    let l = length_map (slice_index s.sizes) s.order in
    sym (means.value (by_variable s.order codes)
    (by_variable_fits s.sizes s.order codes ok.order ok.lengths fit))
    ∙ ap (λ (m : ℕ). eqb m 1)
    (follow_along s.nodes s.order (by_variable s.order codes) root
    ∙ ap (λ (cs : List ℕ). along s.nodes s.order cs root)
    (by_variable_back s.order codes ok.order (omega arith)))
