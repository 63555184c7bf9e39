-- A list of which the first items are passed.
use Rattle.std.specs.Prelude.{◌≡◌, ℕ, zero, suc, List, [], ◌∷◌, drop, slice_get, Some}
use Rattle.std.proofs.lemmas.Option.{none-some}
use Rattle.polis_base.specs.Lists.{head_of}

pub head_of_drop : {X : Type 0} (xs : List X) (i : ℕ) (x : X) → slice_get xs i ≡ Some x
    → head_of (drop i xs) ≡ Some x
head_of_drop [] i x at = absurd (none-some x at)
head_of_drop (y ∷ xs) zero x at = at
head_of_drop (y ∷ xs) (suc i) x at = head_of_drop xs i x at
