-- Two lists that match, item by item.
use Rattle.std.proofs.Common.{◌≡◌, ◌∙◌, ◌<◌, ℕ, ◌+◌, List, [], ◌∷◌, ◌++◌, length, take, get_or, subst, ap, sym}
use Rattle.std.proofs.lemmas.List.{take_more}
use Rattle.std.specs.List.{AllZip}

pub zip_push : {A B : Type 0} (R : A → B → Type 0) (xs : List A) (ys : List B) (x : A) (y : B)
    → AllZip R xs ys → R x y → AllZip R (xs ++ x ∷ []) (ys ++ y ∷ [])
zip_push R [] [] x y all h = (h, tt)
zip_push R [] (b ∷ ys) x y all h = absurd all
zip_push R (a ∷ xs) [] x y all h = absurd all
zip_push R (a ∷ xs) (b ∷ ys) x y all h = (all.0, zip_push R xs ys x y all.1 h)

-- one more item is matched
pub zip_step : {A B : Type 0} (R : A → B → Type 0) (xs : List A) (i : ℕ) (x : A) (made : List B)
    (y : B) (more : List B) → i < length xs → x ≡ get_or xs i x → more ≡ made ++ y ∷ [] → R x y
    → AllZip R (take i xs) made → AllZip R (take (i + 1) xs) more
zip_step R xs i x made y more below at is here held =
    subst (λ l. AllZip R (take (i + 1) xs) l) (sym is)
    (subst (λ l. AllZip R l (made ++ y ∷ []))
    (sym (take_more xs i x below ∙ ap (λ w. take i xs ++ w ∷ []) (sym at)))
    (zip_push R (take i xs) made x y held here))
