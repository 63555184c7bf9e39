-- Sizes with one more at the end.
use Rattle.std.proofs.Common.{◌≡◌, ◌≤◌, ℕ, true, nat_le, ◌&&◌, List, [], ◌∷◌, ◌++◌, refl}
use Rattle.std.specs.Cmp.Derive.{both_true}
use Rattle.std.proofs.lemmas.Bool.{and_parts, le-leb}
use Rattle.domains.specs.Tables.{are_sizes}

pub are_sizes_push : (sizes : List ℕ) (size : ℕ) → are_sizes sizes ≡ true → 1 ≤ size → size ≤ 33
    → are_sizes (sizes ++ size ∷ []) ≡ true
are_sizes_push [] size h some few =
    both_true (both_true (le-leb 1 size some) (le-leb size 33 few)) refl
are_sizes_push (first ∷ sizes) size h some few =
    let parts = and_parts (nat_le 1 first && nat_le first 33) (are_sizes sizes) h in
    both_true parts.0 (are_sizes_push sizes size parts.1 some few)
