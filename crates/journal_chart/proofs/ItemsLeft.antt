-- Lists of items that are made one after another.
use Rattle.std.proofs.Common.{◌≡◌, ℕ, List, [], ◌∷◌, ◌++◌, ◌⊎◌, inl, inr, map, refl, sym, ◌∙◌}
use Rattle.std.specs.Prelude.{IsTrue}
use Rattle.std.proofs.lemmas.List.{append-nil}
use Rattle.domains.specs.Tables.{fits}

-- What a loop over things and their codes keeps: the codes left fit the sizes of the things left,
-- and what is made, with the items left, is the whole.
pub record AreLeft {X : Type 0} (size : X → ℕ) (items : List X → List ℕ → List (List ℕ))
    (whole made : List (List ℕ)) (things : List X) (codes : List ℕ) : Type 0 where
  pub fit : IsTrue (fits (map size things) codes)
  pub text : made ++ items things codes ≡ whole

-- one list at its end is both
ends : {X : Type 0} (size : X → ℕ) (things : List X) (codes : List ℕ)
    → IsTrue (fits (map size things) codes) → (things ≡ []) ⊎ (codes ≡ [])
    → (things ≡ []) × (codes ≡ [])
ends size [] [] h e = (refl, refl)
ends size (thing ∷ things) (code ∷ codes) h e = elim e [ inl p ↦ cc | inr p ↦ cc ]
ends size [] (code ∷ codes) h e = cc
ends size (thing ∷ things) [] h e = cc

-- at the end all items are made
pub all_made : {X : Type 0} (size : X → ℕ) (items : List X → List ℕ → List (List ℕ))
    (whole made : List (List ℕ)) (things : List X) (codes : List ℕ)
    → items [] [] ≡ [] → AreLeft size items whole made things codes
    → (things ≡ []) ⊎ (codes ≡ []) → made ≡ whole
all_made size items whole made things codes none left e =
    let both = ends size things codes left.fit e in
    let t = left.text in
    let u = rw (both.0, both.1, none) at t in
    sym (append-nil made) ∙ u
