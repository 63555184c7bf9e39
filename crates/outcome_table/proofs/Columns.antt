-- The codes of one variable on all lists.
use Rattle.std.proofs.Common.{◌≡◌, true, ℕ, zero, suc, ◌+◌, ◌-◌, ◌*◌, ◌<◌, ◌≤◌, List, ◌∷◌, flat_map, length, take, drop, replicate, slice_index, ◌++◌, ◌/◌, sym, ◌&&◌, nat_le, refl, ap, ◌∙◌, arith, []}
use Rattle.std.proofs.lemmas.Bool.{and_parts, leb-true}
use Rattle.polis_base.specs.Lists.{upto}
use Rattle.domains.specs.AllCodes.{all_codes, each_after}
use Rattle.domains.specs.Tables.{product}
use Rattle.outcome_table.specs.Outcomes.{column}
use Rattle.std.proofs.Math.Nat.{mul-div_cancel, mul-le-mul_right, mul_assoc, suc-mul}
use Rattle.std.proofs.lemmas.List.{append-nil, append_assoc}
use Rattle.domains.specs.Tables.{are_sizes}
use Rattle.transition_table.proofs.CodeSets.{size_at}
use Rattle.outcome_table.proofs.ListMaps.{map_flat, flat_same}
use Rattle.polis_base.proofs.Places.{drop_index, length_map}
use Rattle.polis_base.proofs.UptoPlaces.{flat_map_upto, length_flat_map_upto}

pub all_long : (sizes : List ℕ) → length (all_codes sizes) ≡ product sizes
all_long [] = refl
all_long (size ∷ sizes) =
    length_flat_map_upto (each_after (all_codes sizes)) (product sizes) size
    (λ k. length_map (λ codes. k ∷ codes) (all_codes sizes) ∙ all_long sizes)

pub column_long : (v : ℕ) (sizes : List ℕ) → length (column v (all_codes sizes)) ≡ product sizes
column_long v sizes = length_map (λ codes. slice_index codes v) (all_codes sizes) ∙ all_long sizes

same_first : (c : ℕ) (lists : List (List ℕ))
    → column 0 (each_after lists c) ≡ replicate (length lists) c
same_first c [] = refl
same_first c (codes ∷ lists) = ap (λ (ys : List ℕ). c ∷ ys) (same_first c lists)

same_rest : (v c : ℕ) (lists : List (List ℕ)) → column (suc v) (each_after lists c) ≡ column v lists
same_rest v c [] = refl
same_rest v c (codes ∷ lists) = ap (λ (ys : List ℕ). slice_index codes v ∷ ys) (same_rest v c lists)

-- each code of the first variable stands once for each list of the others
pub column_first : (vars : List ℕ) (from v : ℕ) → from ≡ v → v < length vars
    → column (v - from) (all_codes (drop from vars))
    ≡ flat_map (λ c. replicate (product (drop (from + 1) vars)) c) (upto (slice_index vars from))
column_first vars from v same low =
    let none : v - from ≡ 0 = omega arith in
    ap (λ (k : ℕ). column k (all_codes (drop from vars))) none
    ∙ ap (λ (sizes : List ℕ). column 0 (all_codes sizes)) (drop_index vars from (omega arith))
    ∙ map_flat (λ codes. slice_index codes 0) (each_after (all_codes (drop (from + 1) vars)))
    (upto (slice_index vars from))
    ∙ flat_same (λ c. column 0 (each_after (all_codes (drop (from + 1) vars)) c))
    (λ c. replicate (product (drop (from + 1) vars)) c) (upto (slice_index vars from))
    (λ c. same_first c (all_codes (drop (from + 1) vars))
    ∙ ap (λ (n : ℕ). replicate n c) (all_long (drop (from + 1) vars)))

-- and with each of them the codes of a later variable stand once
pub column_later : (vars : List ℕ) (from v : ℕ) → from < v → v < length vars
    → column (v - from) (all_codes (drop from vars))
    ≡ flat_map (λ c. column (v - (from + 1)) (all_codes (drop (from + 1) vars)))
    (upto (slice_index vars from))
column_later vars from v less low =
    let more : v - from ≡ suc (v - (from + 1)) = omega arith in
    ap (λ (k : ℕ). column k (all_codes (drop from vars))) more
    ∙ ap (λ (sizes : List ℕ). column (suc (v - (from + 1))) (all_codes sizes))
    (drop_index vars from (omega arith))
    ∙ map_flat (λ codes. slice_index codes (suc (v - (from + 1))))
    (each_after (all_codes (drop (from + 1) vars))) (upto (slice_index vars from))
    ∙ flat_same (λ c. column (suc (v - (from + 1)))
    (each_after (all_codes (drop (from + 1) vars)) c))
    (λ c. column (v - (from + 1)) (all_codes (drop (from + 1) vars)))
    (upto (slice_index vars from))
    (λ c. same_rest (v - (from + 1)) c (all_codes (drop (from + 1) vars)))

-- the product of the sizes from a place on
pub product_here : (vars : List ℕ) (i size : ℕ) → i < length vars → slice_index vars i ≡ size
    → product (drop i vars) ≡ size * product (drop (i + 1) vars)
product_here vars i size low is = ap product (drop_index vars i low)
    ∙ ap (λ (n : ℕ). n * product (drop (i + 1) vars)) is

-- there are no more lists of the later variables
pub product_later : (vars : List ℕ) (i : ℕ) → are_sizes vars ≡ true → i < length vars
    → product (drop (i + 1) vars) ≤ product (drop i vars)
product_later vars i sizes low =
    let some = (size_at vars i sizes low).0 in
    let e = product_here vars i (slice_index vars i) low refl in
    let rest = product (drop (i + 1) vars) in
    let h = mul-le-mul_right {m = 1} {n = slice_index vars i} rest some in
    omega (arith, e, h)

pub product_some : (vars : List ℕ) (v : ℕ) → are_sizes vars ≡ true → 0 < product (drop v vars)
product_some [] zero h = omega arith
product_some [] (suc v) h = omega arith
product_some (size ∷ vars) zero h =
    let parts = and_parts (nat_le 1 size && nat_le size 33) (are_sizes vars) h in
    let some = leb-true 1 size (and_parts (nat_le 1 size) (nat_le size 33) parts.0).0 in
    let rest = product_some vars zero parts.1 in
    let grow = mul-le-mul_right {m = 1} {n = size} (product vars) some in
    omega (arith, rest, grow)
product_some (size ∷ vars) (suc v) h =
    product_some vars v (and_parts (nat_le 1 size && nat_le size 33) (are_sizes vars) h).1

-- ---- a column is the part of it for the later variables over and over
pub product_split : (vars : List ℕ) (v : ℕ)
    → product (take v vars) * product (drop v vars) ≡ product vars
product_split vars zero = omega arith
product_split [] (suc v) = refl
product_split (size ∷ vars) (suc v) =
    mul_assoc size (product (take v vars)) (product (drop v vars))
    ∙ ap (λ (n : ℕ). size * n) (product_split vars v)

pub product_times : (vars : List ℕ) (v : ℕ) → are_sizes vars ≡ true
    → product vars / product (drop v vars) ≡ product (take v vars)
product_times vars v h =
    ap (λ (n : ℕ). n / product (drop v vars)) (sym (product_split vars v))
    ∙ mul-div_cancel (product (take v vars)) (product_some vars v h)

product_more : (vars : List ℕ) (v : ℕ) → v < length vars
    → product (take (suc v) vars) ≡ product (take v vars) * slice_index vars v
product_more [] v low = absurd (omega arith)
product_more (size ∷ vars) zero low = omega arith
product_more (size ∷ vars) (suc v) low =
    ap (λ (n : ℕ). size * n) (product_more vars v (omega arith))
    ∙ sym (mul_assoc size (product (take v vars)) (slice_index vars v))

abbrev over : ℕ → List ℕ → List ℕ
over n xs = flat_map (λ (c : ℕ). xs) (upto n)

over_sum : (xs : List ℕ) (a b : ℕ) → over (a + b) xs ≡ over a xs ++ over b xs
over_sum xs a zero = let e : a + zero ≡ a = omega arith in
    ap (λ k. over k xs) e ∙ sym (append-nil (over a xs))
over_sum xs a (suc b) =
    let f : ℕ → List ℕ = λ (c : ℕ). xs in
    let e : a + suc b ≡ suc (a + b) = omega arith in
    ap (λ k. over k xs) e
    ∙ flat_map_upto f (a + b)
    ∙ ap (λ (ys : List ℕ). ys ++ xs) (over_sum xs a b)
    ∙ append_assoc (over a xs) (over b xs) xs
    ∙ ap (λ (ys : List ℕ). over a xs ++ ys) (sym (flat_map_upto f b))

over_over : (xs : List ℕ) (a b : ℕ) → over a (over b xs) ≡ over (a * b) xs
over_over xs zero b = let e : zero ≡ zero * b = omega arith in ap (λ k. over k xs) e
over_over xs (suc a) b =
    flat_map_upto (λ (c : ℕ). over b xs) a
    ∙ ap (λ (ys : List ℕ). ys ++ over b xs) (over_over xs a b)
    ∙ sym (over_sum xs (a * b) b)
    ∙ ap (λ k. over k xs) (sym (suc-mul a b))

pub column_pieces : (vars : List ℕ) (from v : ℕ) → from ≤ v → v < length vars
    → column v (all_codes vars)
    ≡ flat_map (λ c. column (v - from) (all_codes (drop from vars)))
    (upto (product (take from vars)))
column_pieces vars zero v most low =
    let e : v ≡ v - zero = omega arith in
    ap (λ k. column k (all_codes vars)) e
    ∙ sym (flat_map_upto (λ (c : ℕ). column (v - zero) (all_codes vars)) 0)
column_pieces vars (suc from) v most low =
    let e : from + 1 ≡ suc from = omega arith in
    let n = product (take from vars) in
    let later : List ℕ = column (v - (from + 1)) (all_codes (drop (from + 1) vars)) in
    column_pieces vars from v (omega arith) low
    ∙ ap (λ (xs : List ℕ). over n xs) (column_later vars from v (omega arith) low)
    ∙ over_over later n (slice_index vars from)
    ∙ ap (λ k. over k later) (sym (product_more vars from (omega arith)))
    ∙ ap (λ k. over (product (take (suc from) vars)) (column (v - k) (all_codes (drop k vars)))) e
