-- Two lists that match, item by item.
use Rattle.std.proofs.Common.{◌≡◌, ◌∙◌, ◌<◌, ℕ, ◌+◌, List, ◌∷◌, ◌++◌, length, map, take, get_or, ap, sym, []}
use Rattle.std.proofs.lemmas.List.{take_more, map-append}
use Rattle.std.proofs.lemmas.Option.{slice_get_read}
use Rattle.net_rules.specs.inner.Sound.{Each}

-- what each item keeps, this one keeps
pub each_item : {A : Type 0} (P : A → Type 0) (xs : List A) (i : ℕ) (x : A) → i < length xs
    → x ≡ get_or xs i x → Each P xs → P x
each_item P xs i x below at each =
    each i x (slice_get_read xs (length xs) i x (λ j. length xs) below at)

-- one more item is made
pub map_step : {A B : Type 0} (f : A → B) (xs : List A) (i : ℕ) (x : A) (made more : List B) (y : B)
    → i < length xs → x ≡ get_or xs i x → more ≡ made ++ y ∷ [] → y ≡ f x → made ≡ map f (take i xs)
    → more ≡ map f (take (i + 1) xs)
map_step f xs i x made more y below at is here held =
    is ∙ (λ j. held j ++ here j ∷ []) ∙ sym (map-append f (take i xs) (x ∷ []))
    ∙ ap (map f) (sym (take_more xs i x below ∙ ap (λ w. take i xs ++ w ∷ []) (sym at)))
