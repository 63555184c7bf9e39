-- One more text of those that a function gives of each item and its number.
use Rattle.std.proofs.Common.{◌≡◌, ℕ, suc, ◌+◌, List, ◌∷◌, ◌++◌, drop, slice_get, Some, ap, sym, ◌∙◌, arith, append_assoc}
use Rattle.polis_base.specs.Lists.{numbered}
use Rattle.polis_base.proofs.Places.{drop_one}

pub more_numbered : {X : Type 0} (text : ℕ → X → List ℕ) (xs : List X) (k : ℕ) (x : X)
    (out new whole : List ℕ) → out ++ numbered text k (drop k xs) ≡ whole
    → slice_get xs k ≡ Some x → new ≡ out ++ text k x
    → new ++ numbered text (k + 1) (drop (k + 1) xs) ≡ whole
more_numbered {X = X} text xs k x out new whole is is_x e =
    let f : k + 1 ≡ suc k = omega arith in
    ap (λ (n : ℕ). new ++ numbered text n (drop n xs)) f
    ∙ ap (λ (ys : List ℕ). ys ++ numbered text (suc k) (drop (suc k) xs)) e
    ∙ append_assoc out (text k x) (numbered text (suc k) (drop (suc k) xs))
    ∙ ap (λ (ys : List X). out ++ numbered text k ys) (sym (drop_one xs k x is_x))
    ∙ is
