-- The first so many items of a list.
use Rattle.std.proofs.Common.{◌≡◌, ℕ, zero, suc, List, [], ◌∷◌, ◌++◌, take, Some, None, ap}
use Rattle.std.specs.Prelude.{slice_get}
use Rattle.polis_base.proofs.Places.{some_is}

pub none_some : {X : Type 0} (x : X) → None ≡ Some x → ⊥
none_some x e = cc

pub take_next : {X : Type 0} (xs : List X) (i : ℕ) (x : X) → slice_get xs i ≡ Some x
    → take (suc i) xs ≡ take i xs ++ x ∷ []
take_next [] i x e = absurd (none_some x e)
take_next {X} (y ∷ ys) zero x e = ap (λ (z : X). z ∷ []) (some_is y x e)
take_next {X} (y ∷ ys) (suc i) x e = ap (λ (zs : List X). y ∷ zs) (take_next ys i x e)
