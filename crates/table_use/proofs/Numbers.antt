-- The number of a list of codes, from its last variable on.
use Rattle.std.proofs.Common.{◌≡◌, ℕ, zero, suc, ◌+◌, ◌*◌, ◌<◌, true, nat_lt, List, [], ◌∷◌, length, drop, slice_get, slice_index, Some, refl, ap, sym, ◌∙◌, arith}
use Rattle.std.proofs.lemmas.Bool.{and_parts, false≢true}
use Rattle.domains.specs.Tables.{are_sizes, fits, product, rank}
use Rattle.domains.proofs.Ranks.{length_fits, ranks_below}
use Rattle.outcome_table.proofs.Columns.{product_here}
use Rattle.std.proofs.Math.Nat.{mul_comm}
use Rattle.std.proofs.lemmas.Option.{get_or_from_slice_get}
use Rattle.domains.proofs.FittingCodes.{product_after}
use Rattle.polis_base.proofs.Places.{drop_index, drop_whole}

-- the code of the variable i weighs as much as there are lists of the later ones
pub rank_here : (sizes codes : List ℕ) (i : ℕ) → i < length sizes → i < length codes
    → rank (drop i sizes) (drop i codes)
    ≡ slice_index codes i * product (drop (i + 1) sizes)
    + rank (drop (i + 1) sizes) (drop (i + 1) codes)
rank_here sizes codes i low below =
    ap (λ (xs : List ℕ). rank xs (drop i codes)) (drop_index sizes i low)
    ∙ ap (rank (slice_index sizes i ∷ drop (i + 1) sizes)) (drop_index codes i below)

pub product_end : (sizes : List ℕ) (i : ℕ) → i ≡ length sizes → product (drop i sizes) ≡ 1
product_end sizes i end =
    ap (λ (k : ℕ). product (drop k sizes)) end ∙ ap product (drop_whole sizes)

pub rank_end : (sizes codes : List ℕ) (i : ℕ) → i ≡ length sizes
    → rank (drop i sizes) (drop i codes) ≡ 0
rank_end sizes codes i end =
    ap (λ (k : ℕ). rank (drop k sizes) (drop i codes)) end
    ∙ ap (λ (xs : List ℕ). rank xs (drop i codes)) (drop_whole sizes)

pub fits_drop : (sizes codes : List ℕ) (i : ℕ) → fits sizes codes ≡ true
    → fits (drop i sizes) (drop i codes) ≡ true
fits_drop sizes codes zero h = h
fits_drop [] [] (suc i) h = refl
fits_drop [] (code ∷ codes) (suc i) h = absurd (false≢true h)
fits_drop (size ∷ sizes) [] (suc i) h = absurd (false≢true h)
fits_drop (size ∷ sizes) (code ∷ codes) (suc i) h =
    fits_drop sizes codes i (and_parts (nat_lt code size) (fits sizes codes) h).1

-- and no number of later ones is above that of all lists
pub rank_low : (sizes codes : List ℕ) (i : ℕ) → are_sizes sizes ≡ true → fits sizes codes ≡ true
    → rank (drop i sizes) (drop i codes) < product sizes
rank_low sizes codes i some fit =
    let below = ranks_below (drop i sizes) (drop i codes) (fits_drop sizes codes i fit) in
    let most = product_after sizes i some in
    omega arith

-- one variable more
pub rank_step : (sizes codes : List ℕ) (i v code step number : ℕ) → fits sizes codes ≡ true
    → v ≡ i + 1 → i < length sizes → slice_get codes i ≡ Some code
    → number ≡ rank (drop v sizes) (drop v codes) → step ≡ product (drop v sizes)
    → number + code * step ≡ rank (drop i sizes) (drop i codes)
rank_step sizes codes i v code step number fit next low at is steps =
    let long = length_fits sizes codes fit in
    let sum : code * step + number
    ≡ slice_index codes i * product (drop (i + 1) sizes)
    + rank (drop (i + 1) sizes) (drop (i + 1) codes) =
    ap (λ (n : ℕ). code * n + number) steps
    ∙ ap (λ (n : ℕ). code * product (drop v sizes) + n) is
    ∙ ap (λ (n : ℕ). n * product (drop v sizes) + rank (drop v sizes) (drop v codes))
    (sym (get_or_from_slice_get codes i code 0 at))
    ∙ ap (λ (k : ℕ). slice_index codes i * product (drop k sizes)
    + rank (drop k sizes) (drop k codes)) next in
    let whole = rank_here sizes codes i low (omega arith) in
    omega arith

pub product_step : (sizes : List ℕ) (i v size step : ℕ) → v ≡ i + 1 → i < length sizes
    → slice_get sizes i ≡ Some size → step ≡ product (drop v sizes)
    → step * size ≡ product (drop i sizes)
product_step sizes i v size step next low at steps =
    mul_comm step size
    ∙ ap (λ (n : ℕ). size * n) (steps ∙ ap (λ (k : ℕ). product (drop k sizes)) next)
    ∙ sym (product_here sizes i size low (get_or_from_slice_get sizes i size 0 at))
