-- Tests, and what passes them.
use Rattle.std.proofs.Common.{◌≡◌, Bool, true, false, List, [], ◌∷◌, refl}
use Rattle.std.specs.List.{list_all}
use Rattle.std.proofs.lemmas.Bool.{and_from, and_parts}

-- what passes one test passes another that follows from it
pub all_pass : {X : Type 0} (p q : X → Bool) → ((x : X) → p x ≡ true → q x ≡ true) → (xs : List X)
    → list_all p xs ≡ true → list_all q xs ≡ true
all_pass p q h [] all = refl
all_pass p q h (x ∷ xs) all =
    let parts = and_parts (p x) (list_all p xs) all in
    and_from _ _ (h x parts.0) (all_pass p q h xs parts.1)

pub differ_false : (t : Bool) → (t ≡ true → ⊥) → t ≡ false
differ_false true h = absurd (h refl)
differ_false false h = refl
