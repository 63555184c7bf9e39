-- The number of a machine's snapshots, counted variable by variable.
use Rattle.std.proofs.Common.{◌≡◌, ◌≤◌, ◌<◌, ◌+◌, ◌*◌, ◌&&◌, nat_le, ℕ, zero, suc, true, List, [], ◌∷◌, drop, slice_get, Some, ◌∙◌, ap, mul_assoc, arith}
use Rattle.std.proofs.lemmas.Bool.{leb-true}
use Rattle.std.proofs.Math.Nat.{mul-pos, le-mul_of_pos_right}
use Rattle.domains.specs.Tables.{are_sizes, product}
use Rattle.domains.proofs.FittingCodes.{sizes_drop}
use Rattle.polis_base.proofs.Bools.{and_first, and_second}
use Rattle.polis_base.proofs.Places.{drop_one}

-- what was counted times the product of the sizes that are left is the product of all
abbrev pub Counted : List ℕ → ℕ → ℕ → Type 0
Counted sizes k count = count * product (drop k sizes) ≡ product sizes

rest_sizes : (size : ℕ) (sizes : List ℕ) → are_sizes (size ∷ sizes) ≡ true → are_sizes sizes ≡ true
rest_sizes size sizes h = and_second (nat_le 1 size && nat_le size 33) (are_sizes sizes) h

positive : (sizes : List ℕ) → are_sizes sizes ≡ true → zero < product sizes
positive [] h = omega arith
positive (size ∷ sizes) h =
    let some : 1 ≤ size =
    leb-true 1 size
    (and_first (nat_le 1 size) (nat_le size 33) (and_first _ (are_sizes sizes) h)) in
    mul-pos (omega arith) (positive sizes (rest_sizes size sizes h))

-- one more variable is counted
pub counted_next : (sizes : List ℕ) (k count size : ℕ) → slice_get sizes k ≡ Some size
    → Counted sizes k count → Counted sizes (k + 1) (count * size)
counted_next sizes k count size at counted =
    let e : product (drop k sizes) ≡ size * product (drop (suc k) sizes) =
    ap product (drop_one sizes k size at) in
    let n : k + 1 ≡ suc k = omega arith in
    let c : count * (size * product (drop (suc k) sizes)) ≡ product sizes = rw e at counted in
    rw n (mul_assoc count size (product (drop (suc k) sizes)) ∙ c)

-- what is counted is within the product
pub count_within : (sizes : List ℕ) (k count size : ℕ) → slice_get sizes k ≡ Some size
    → Counted sizes k count → are_sizes sizes ≡ true → count * size ≤ product sizes
count_within sizes k count size at counted h =
    let next = counted_next sizes k count size at counted in
    rw next at (le-mul_of_pos_right (count * size)
    (positive (drop (k + 1) sizes) (sizes_drop sizes (k + 1) h)))
