-- One more result.
use Rattle.std.proofs.Common.{◌≡◌, ℕ, suc, ◌+◌, Bool, true, false, cond, List, [], ◌∷◌, ◌++◌, map, ap, sym, ◌∙◌, arith}
use Rattle.std.specs.Prelude.{filter}
use Rattle.std.proofs.lemmas.List.{map-append, append-nil, append_assoc}
use Rattle.polis_base.specs.Lists.{upto}
use Rattle.polis_base.proofs.ListTests.{filter_append}

more : (old : List ℕ) (n y : ℕ) (p : ℕ → Bool)
    → old ++ map (λ y. n + y) (filter p (upto (y + 1)))
    ≡ (old ++ map (λ y. n + y) (filter p (upto y))) ++ map (λ y. n + y) (filter p (y ∷ []))
more old n y p =
    let e : y + 1 ≡ suc y = omega arith in
    ap (λ (k : ℕ). old ++ map (λ (y : ℕ). n + y) (filter p (upto k))) e
    ∙ ap (λ (xs : List ℕ). old ++ map (λ (y : ℕ). n + y) xs) (filter_append p (upto y) (y ∷ []))
    ∙ ap (λ (xs : List ℕ). old ++ xs)
    (map-append (λ (y : ℕ). n + y) (filter p (upto y)) (filter p (y ∷ [])))
    ∙ sym (append_assoc old (map (λ y. n + y) (filter p (upto y)))
    (map (λ y. n + y) (filter p (y ∷ []))))

pub behind_on : (old : List ℕ) (n y : ℕ) (p : ℕ → Bool) → p y ≡ true
    → old ++ map (λ y. n + y) (filter p (upto (y + 1)))
    ≡ (old ++ map (λ y. n + y) (filter p (upto y))) ++ (n + y) ∷ []
behind_on old n y p on = more old n y p
    ∙ ap (λ (b : Bool). (old ++ map (λ (y : ℕ). n + y) (filter p (upto y)))
    ++ map (λ (y : ℕ). n + y) (cond b (y ∷ []) [])) on

pub behind_off : (old : List ℕ) (n y : ℕ) (p : ℕ → Bool) → p y ≡ false
    → old ++ map (λ y. n + y) (filter p (upto (y + 1)))
    ≡ old ++ map (λ y. n + y) (filter p (upto y))
behind_off old n y p off =
    more old n y p
    ∙ ap (λ (b : Bool). (old ++ map (λ (y : ℕ). n + y) (filter p (upto y)))
    ++ map (λ (y : ℕ). n + y) (cond b (y ∷ []) [])) off
    ∙ append-nil (old ++ map (λ y. n + y) (filter p (upto y)))
