-- Words for items that are made one after another.
use Rattle.std.proofs.Common.{◌≡◌, ◌⊎◌, inl, inr, ⊎_elim, ℕ, zero, suc, ◌+◌, List, ◌∷◌, ◌++◌, length, slice_get, Some, refl, ap, sym, subst, ◌∙◌, arith, length-append, []}
use Rattle.transition_table.specs.declared.machine.Machine.{Machine}
use Rattle.transition_table.specs.declared.network.Network.{Network}
use Rattle.task_code.specs.Listings.{label}
use Rattle.task_code.specs.inner.Labels.{AreLabels}

-- what stands in a list with one more item
get_push : (xs : List (List ℕ)) (x y : List ℕ) (k : ℕ) → slice_get (xs ++ x ∷ []) k ≡ Some y
    → (slice_get xs k ≡ Some y) ⊎ ((k ≡ length xs) × (y ≡ x))
get_push [] x y zero h = inr (refl, cc)
get_push [] x y (suc k) h = cc
get_push (z ∷ zs) x y zero h = inl h
get_push (z ∷ zs) x y (suc k) h =
    ⊎_elim (λ before. inl before) (λ last. inr (ap suc last.0, last.1)) (get_push zs x y k h)

-- the first items, so many of them, have their words
pub record Made (net : Network) (m : Machine) (texts : List (List ℕ)) (count : ℕ) : Type 0 where
  pub long : length texts ≡ count
  pub each : AreLabels net m texts

pub made_more : (net : Network) (m : Machine) (texts more : List (List ℕ)) (none text : List ℕ)
    (count : ℕ) → Made net m texts count → none ≡ [] → text ≡ none ++ label net m count
    → more ≡ texts ++ text ∷ [] → Made net m more (count + 1)
made_more net m texts more none text count ok empty is e =
    let same : text ≡ label net m count = is ∙ ap (λ (xs : List ℕ). xs ++ label net m count) empty in
    record {
      long =
          let a : length more ≡ length (texts ++ text ∷ []) =
          ap (λ (xs : List (List ℕ)). length xs) e in
          let b = length-append texts (text ∷ []) in
          let own = ok.long in
          omega arith;
      each = λ k words h.
          ⊎_elim (λ before. ok.each k words before)
          (λ last. last.1 ∙ same ∙ ap (label net m) (sym (last.0 ∙ ok.long)))
          (get_push texts text words k
          (subst (λ (xs : List (List ℕ)). slice_get xs k ≡ Some words) e h));
    }
