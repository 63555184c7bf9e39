-- Lists that agree in what a function says of their items.
use Rattle.std.proofs.Common.{◌≡◌, ⊎_elim, ℕ, suc, ◌+◌, List, [], ◌∷◌, map, length, slice_get, Some, option_map, refl, sym, ap, ◌∙◌, subst, arith}
use Rattle.std.proofs.lemmas.Bool.{cases_lt}
use Rattle.std.proofs.lemmas.List.{length-map}
use Rattle.std.proofs.lemmas.Option.{slice_get-map}
use Rattle.polis_base.specs.Lists.{AgreeBelow}

-- what the function says of the item at a place
pub at_place : {X Z : Type 0} (f g : X → Z) (xs ys : List X) (k : ℕ) → map f xs ≡ map g ys
    → option_map f (slice_get xs k) ≡ option_map g (slice_get ys k)
at_place f g xs ys k same =
    sym (slice_get-map f xs k) ∙ ap (λ zs. slice_get zs k) same ∙ slice_get-map g ys k

pub at_both : {X Z : Type 0} (f g : X → Z) (xs ys : List X) (k : ℕ) (x y : X)
    → map f xs ≡ map g ys → slice_get xs k ≡ Some x → slice_get ys k ≡ Some y → f x ≡ g y
at_both f g xs ys k x y same here there =
    let whole =
    sym (ap (option_map f) here) ∙ at_place f g xs ys k same ∙ ap (option_map g) there in
    cc

pub same_long : {X Z : Type 0} (f g : X → Z) (xs ys : List X) → map f xs ≡ map g ys
    → length xs ≡ length ys
same_long f g xs ys same = sym (length-map xs f) ∙ ap (λ zs. length zs) same ∙ length-map ys g

-- ---- places

pub column : {X Y Z : Type 0} (f : X → Z) (g : Y → Z) (xs : List X) (ys : List Y)
    → length xs ≡ length ys → AgreeBelow (λ x y. f x ≡ g y) xs ys (length xs)
    → map f xs ≡ map g ys
column f g [] [] long agree = refl
column f g [] (y ∷ ys) long agree = absurd (omega arith)
column f g (x ∷ xs) [] long agree = absurd (omega arith)
column f g (x ∷ xs) (y ∷ ys) long agree =
    ap (λ z. z ∷ map f xs) (agree 0 x y (omega arith) refl refl)
    ∙ ap (λ zs. g y ∷ zs)
    (column f g xs ys (omega arith) (λ k u v low here there.
    agree (suc k) u v (omega arith) here there))

pub same_lists : {X : Type 0} (xs ys : List X) → length xs ≡ length ys
    → AgreeBelow (λ x y. x ≡ y) xs ys (length xs) → xs ≡ ys
same_lists [] [] long agree = refl
same_lists [] (y ∷ ys) long agree = absurd (omega arith)
same_lists (x ∷ xs) [] long agree = absurd (omega arith)
same_lists (x ∷ xs) (y ∷ ys) long agree =
    ap (λ z. z ∷ xs) (agree 0 x y (omega arith) refl refl)
    ∙ ap (λ zs. y ∷ zs)
    (same_lists xs ys (omega arith) (λ k u v low here there.
    agree (suc k) u v (omega arith) here there))

pub one_more : {X Y : Type 0} (R : X → Y → Type 0) (xs : List X) (ys : List Y) (n : ℕ) (p : X)
    (q : Y) → slice_get xs n ≡ Some p → slice_get ys n ≡ Some q → R p q → AgreeBelow R xs ys n
    → AgreeBelow R xs ys (n + 1)
one_more R xs ys n p q p_is q_is holds agree k x y low x_is y_is =
    ⊎_elim
    (λ less. agree k x y less x_is y_is)
    (λ more.
    let at : k ≡ n = omega arith in
    let left : p ≡ x = let e = ap (slice_get xs) at in cc in
    let right : q ≡ y = let e = ap (slice_get ys) at in cc in
    subst (λ z. R z y) left (subst (λ z. R p z) right holds))
    (cases_lt k n)
