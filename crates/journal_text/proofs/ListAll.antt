-- What holds of each item holds of the list.
use Rattle.std.proofs.Common.{◌≡◌, ◌+◌, ℕ, zero, suc, Bool, true, List, [], ◌∷◌, take, Some, slice_get, refl, arith, subst, sym}
use Rattle.std.specs.List.{list_all}
use Rattle.std.proofs.lemmas.Bool.{and_from, and_parts}
use Rattle.journal_text.proofs.FormWords.{some_same}

-- one item more
pub holds_next : {X : Type 0} (test : X → Bool) (xs : List X) (i : ℕ) (x : X)
    → list_all test (take i xs) ≡ true → slice_get xs i ≡ Some x → test x ≡ true
    → list_all test (take (i + 1) xs) ≡ true
holds_next {X = X} test xs i x all at is =
    let next : suc i ≡ i + 1 = omega arith in
    subst (λ n. list_all test (take n xs) ≡ true) next (go xs i all at)
  where
    go : (ys : List X) (j : ℕ) → list_all test (take j ys) ≡ true → slice_get ys j ≡ Some x
        → list_all test (take (suc j) ys) ≡ true
    go [] j h at = cc
    go (y ∷ ys) zero h at = and_from _ _ (subst (λ z. test z ≡ true) (sym (some_same at)) is) refl
    go (y ∷ ys) (suc j) h at =
        let parts = and_parts (test y) _ h in
        and_from _ _ parts.0 (go ys j parts.1 at)
