-- Codes that fit the sizes of variables, and the sizes themselves.
use Rattle.std.proofs.Common.{List, [], arith, drop, length, ltb, nat_le, nat_lt, refl, slice_index, slice_set, suc, sym, take, true, zero, ℕ, ◌&&◌, ◌++◌, ◌<◌, ◌∷◌, ◌≡◌, ◌≤◌}
use Rattle.std.proofs.Math.Nat.{mul-le-mul_right}
use Rattle.std.proofs.lemmas.Bool.{and_from, and_parts, false≢true, leb-true, lt-ltb, true≢false}
use Rattle.domains.specs.Tables.{are_sizes, fits, product}

pub fits_set : (sizes codes : List ℕ) (v code : ℕ) → fits sizes codes ≡ true
    → code < slice_index sizes v → fits sizes (slice_set codes v code) ≡ true
fits_set [] [] v code h low = refl
fits_set [] (c ∷ codes) v code h low = absurd (false≢true h)
fits_set (size ∷ sizes) [] v code h low = absurd (false≢true h)
fits_set (size ∷ sizes) (c ∷ codes) zero code h low =
    and_from (nat_lt code size) (fits sizes codes) (lt-ltb code size low)
    (and_parts (nat_lt c size) (fits sizes codes) h).1
fits_set (size ∷ sizes) (c ∷ codes) (suc v) code h low =
    let parts = and_parts (nat_lt c size) (fits sizes codes) h in
    and_from (nat_lt c size) (fits sizes (slice_set codes v code)) parts.0
    (fits_set sizes codes v code parts.1 low)

pub product_after : (vars : List ℕ) (v : ℕ) → are_sizes vars ≡ true
    → product (drop v vars) ≤ product vars
product_after vars zero h = omega arith
product_after [] (suc v) h = omega arith
product_after (size ∷ vars) (suc v) h =
    let parts = and_parts (nat_le 1 size && nat_le size 33) (are_sizes vars) h in
    let some = leb-true 1 size (and_parts (nat_le 1 size) (nat_le size 33) parts.0).0 in
    let rest = product_after vars v parts.1 in
    let grow = mul-le-mul_right {m = 1} {n = size} (product vars) some in
    omega (arith, rest, grow)

pub fits_prefix : (xs ys codes : List ℕ) → fits (xs ++ ys) codes ≡ true
    → fits xs (take (length xs) codes) ≡ true
fits_prefix [] ys codes h = refl
fits_prefix (x ∷ xs) ys [] h = h
fits_prefix (x ∷ xs) ys (code ∷ codes) h =
    let parts = and_parts (ltb code x) (fits (xs ++ ys) codes) h in
    and_from (ltb code x) (fits xs (take (length xs) codes)) parts.0
    (fits_prefix xs ys codes parts.1)

pub fits_both : (xs ys a b : List ℕ) → fits xs a ≡ true → fits ys b ≡ true
    → fits (xs ++ ys) (a ++ b) ≡ true
fits_both [] ys [] b ha hb = hb
fits_both [] ys (c ∷ a) b ha hb = absurd (true≢false (sym ha))
fits_both (x ∷ xs) ys [] b ha hb = absurd (true≢false (sym ha))
fits_both (x ∷ xs) ys (c ∷ a) b ha hb =
    let parts = and_parts (ltb c x) (fits xs a) ha in
    and_from (ltb c x) (fits (xs ++ ys) (a ++ b)) parts.0 (fits_both xs ys a b parts.1 hb)

pub fits_from : (sizes codes : List ℕ) → length codes ≡ length sizes
    → ((v : ℕ) → v < length sizes → slice_index codes v < slice_index sizes v)
    → fits sizes codes ≡ true
fits_from [] [] e low = refl
fits_from [] (c ∷ codes) e low = absurd (omega arith)
fits_from (size ∷ sizes) [] e low = absurd (omega arith)
fits_from (size ∷ sizes) (c ∷ codes) e low =
    and_from (ltb c size) (fits sizes codes) (lt-ltb c size (low 0 (omega arith)))
    (fits_from sizes codes (omega arith) (λ v less. low (suc v) (omega arith)))

pub fits_set_any : (sizes codes : List ℕ) → fits sizes codes ≡ true → (var code : ℕ)
    → code < slice_index sizes var → fits sizes (slice_set codes var code) ≡ true
fits_set_any [] [] h var code below = refl
fits_set_any [] (first ∷ codes) h var code below = absurd (false≢true h)
fits_set_any (size ∷ sizes) [] h var code below = absurd (false≢true h)
fits_set_any (size ∷ sizes) (first ∷ codes) h zero code below =
    and_from (ltb code size) (fits sizes codes) (lt-ltb code size below)
    (and_parts (ltb first size) (fits sizes codes) h).1
fits_set_any (size ∷ sizes) (first ∷ codes) h (suc var) code below =
    let parts = and_parts (ltb first size) (fits sizes codes) h in
    and_from (ltb first size) (fits sizes (slice_set codes var code)) parts.0
    (fits_set_any sizes codes parts.1 var code below)

pub sizes_both : (one other : List ℕ) → are_sizes one ≡ true → are_sizes other ≡ true
    → are_sizes (one ++ other) ≡ true
sizes_both [] other h k = k
sizes_both (size ∷ one) other h k =
    let parts = and_parts (nat_le 1 size && nat_le size 33) (are_sizes one) h in
    and_from (nat_le 1 size && nat_le size 33) (are_sizes (one ++ other)) parts.0
    (sizes_both one other parts.1 k)

pub sizes_drop : (sizes : List ℕ) (k : ℕ) → are_sizes sizes ≡ true → are_sizes (drop k sizes) ≡ true
sizes_drop sizes zero h = h
sizes_drop [] (suc k) h = refl
sizes_drop (size ∷ sizes) (suc k) h =
    sizes_drop sizes k (and_parts (nat_le 1 size && nat_le size 33) (are_sizes sizes) h).1

pub size_some : (sizes : List ℕ) (k : ℕ) → are_sizes sizes ≡ true → k < length sizes
    → 1 ≤ slice_index sizes k
size_some [] k h low = absurd (omega arith)
size_some (size ∷ sizes) zero h low =
    (leb-true 1 size
    (and_parts (nat_le 1 size) (nat_le size 33)
    (and_parts (nat_le 1 size && nat_le size 33) (are_sizes sizes) h).0).0)
size_some (size ∷ sizes) (suc k) h low =
    size_some sizes k (and_parts (nat_le 1 size && nat_le size 33) (are_sizes sizes) h).1
    (omega arith)
