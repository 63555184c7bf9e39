-- Tables that are one item longer.
use Rattle.std.proofs.Common.{◌≡◌, ℕ, ◌+◌, List, [], ◌∷◌, ◌++◌, flat_map, ap, ◌∙◌, add-one}
use Rattle.std.proofs.lemmas.List.{append-nil}
use Rattle.std.proofs.lemmas.Grind.{flat_map-append}
use Rattle.polis_base.specs.Lists.{upto}

pub flat_more : {X : Type 0} (f : ℕ → List X) (n : ℕ)
    → flat_map f (upto (n + 1)) ≡ flat_map f (upto n) ++ f n
flat_more f n =
    rw add-one
    (flat_map-append f (upto n) (n ∷ [])
    ∙ ap (λ (xs : List _). flat_map f (upto n) ++ xs) (append-nil (f n)))
