-- Reading lists.
use Rattle.std.proofs.Common.{◌≡◌, ℕ, zero, suc, ◌+◌, ◌<◌, List, ◌∷◌, ◌++◌, map, length, get_or, slice_index, refl, ap, ◌∙◌, arith, []}

-- ---- two lists after each other
pub index_second : (xs ys : List ℕ) (i : ℕ)
    → slice_index (xs ++ ys) (length xs + i) ≡ slice_index ys i
index_second [] ys i = let e : 0 + i ≡ i = omega arith in ap (slice_index ys) e
index_second (x ∷ xs) ys i = let e : suc (length xs) + i ≡ suc (length xs + i) = omega arith in
    ap (slice_index (x ∷ xs ++ ys)) e ∙ index_second xs ys i

-- a number is below an item only where the item is there
pub below_within : (xs : List ℕ) (i n : ℕ) → n < slice_index xs i → i < length xs
below_within [] i n below = absurd (omega arith)
below_within (x ∷ xs) zero n below = omega arith
below_within (x ∷ xs) (suc i) n below = let h = below_within xs i n below in omega arith

-- ---- lists of which each item passes

pub at_map : {X Y : Type 0} (f : X → Y) (xs : List X) (i : ℕ) (d : X) (e : Y) → i < length xs
    → get_or (map f xs) i e ≡ f (get_or xs i d)
at_map f [] i d e low = absurd (omega arith)
at_map f (x ∷ xs) zero d e low = refl
at_map f (x ∷ xs) (suc i) d e low = at_map f xs i d e (omega arith)
