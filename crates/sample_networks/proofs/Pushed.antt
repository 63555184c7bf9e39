-- Lists after a few pushes.
use Rattle.std.proofs.Common.{◌≡◌, List, [], ◌∷◌, ◌++◌, ap, ◌∙◌}
use Rattle.std.proofs.lemmas.List.{append_assoc}

pub one_pushed : {X : Type 0} (old new : List X) (a x : X) → new ≡ old ++ a ∷ [] → a ≡ x
    → new ≡ old ++ x ∷ []
one_pushed {X = X} old new a x is item = is ∙ ap (λ (y : X). old ++ y ∷ []) item

pub two_pushed : {X : Type 0} (old one new : List X) (a b x y : X) → one ≡ old ++ a ∷ []
    → new ≡ one ++ b ∷ [] → a ≡ x → b ≡ y → new ≡ old ++ x ∷ y ∷ []
two_pushed {X = X} old one new a b x y first second item other =
    one_pushed one new b y second other
    ∙ ap (λ (l : List X). l ++ y ∷ []) (one_pushed old one a x first item)
    ∙ append_assoc old (x ∷ []) (y ∷ [])

pub three_pushed : {X : Type 0} (old one more new : List X) (a b c x y z : X) → one ≡ old ++ a ∷ []
    → more ≡ one ++ b ∷ [] → new ≡ more ++ c ∷ [] → a ≡ x → b ≡ y → c ≡ z
    → new ≡ old ++ x ∷ y ∷ z ∷ []
three_pushed {X = X} old one more new a b c x y z first second third item other last =
    one_pushed more new c z third last
    ∙ ap (λ (l : List X). l ++ z ∷ []) (two_pushed old one more a b x y first second item other)
    ∙ append_assoc old (x ∷ y ∷ []) (z ∷ [])

-- lists that begin without items
pub one_made : {X : Type 0} (old new : List X) (a x : X) → old ≡ [] → new ≡ old ++ a ∷ [] → a ≡ x
    → new ≡ x ∷ []
one_made {X = X} old new a x none is item =
    one_pushed old new a x is item ∙ ap (λ (l : List X). l ++ x ∷ []) none

pub three_made : {X : Type 0} (old one more new : List X) (a b c x y z : X) → old ≡ []
    → one ≡ old ++ a ∷ [] → more ≡ one ++ b ∷ [] → new ≡ more ++ c ∷ [] → a ≡ x → b ≡ y → c ≡ z
    → new ≡ x ∷ y ∷ z ∷ []
three_made {X = X} old one more new a b c x y z none first second third item other last =
    three_pushed old one more new a b c x y z first second third item other last
    ∙ ap (λ (l : List X). l ++ x ∷ y ∷ z ∷ []) none
