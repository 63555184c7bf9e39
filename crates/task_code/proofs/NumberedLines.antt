-- One more line.
use Rattle.std.proofs.Common.{◌≡◌, ℕ, suc, ◌+◌, List, ◌∷◌, ◌++◌, drop, slice_get, Some, ap, sym, ◌∙◌, arith, append_assoc, decimal, codes}
use Rattle.polis_base.specs.Lines.{line}
use Rattle.task_code.specs.Listings.{numbered_lines}
use Rattle.task_code.specs.inner.Labels.{others}
use Rattle.polis_base.proofs.Places.{drop_one}

pub more_lines : {X : Type 0} (words : X → List ℕ) (xs : List X) (k : ℕ) (x : X)
    (out new whole : List ℕ) → out ++ numbered_lines words k (drop k xs) ≡ whole
    → slice_get xs k ≡ Some x → new ≡ out ++ line (decimal k ++ 32 ∷ words x)
    → new ++ numbered_lines words (k + 1) (drop (k + 1) xs) ≡ whole
more_lines {X = X} words xs k x out new whole is is_x e =
    let f : k + 1 ≡ suc k = omega arith in
    ap (λ (n : ℕ). new ++ numbered_lines words n (drop n xs)) f
    ∙ ap (λ (ys : List ℕ). ys ++ numbered_lines words (suc k) (drop (suc k) xs)) e
    ∙ append_assoc out (line (decimal k ++ 32 ∷ words x))
    (numbered_lines words (suc k) (drop (suc k) xs))
    ∙ ap (λ (ys : List X). out ++ numbered_lines words k ys) (sym (drop_one xs k x is_x))
    ∙ is

pub more_others : (words : ℕ → List ℕ) (xs : List ℕ) (k x : ℕ) (out mid new whole : List ℕ)
    → out ++ others words (drop k xs) ≡ whole → slice_get xs k ≡ Some x → mid ≡ out ++ codes ", "
    → new ≡ mid ++ words x → new ++ others words (drop (k + 1) xs) ≡ whole
more_others words xs k x out mid new whole is is_x one two =
    let f : k + 1 ≡ suc k = omega arith in
    ap (λ (n : ℕ). new ++ others words (drop n xs)) f
    ∙ ap (λ (ys : List ℕ). ys ++ others words (drop (suc k) xs))
    (two ∙ ap (λ (ys : List ℕ). ys ++ words x) one ∙ append_assoc out (codes ", ") (words x))
    ∙ append_assoc out (codes ", " ++ words x) (others words (drop (suc k) xs))
    ∙ ap (λ (ys : List ℕ). out ++ others words ys) (sym (drop_one xs k x is_x))
    ∙ is
