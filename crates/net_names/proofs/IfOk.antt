-- Answers by another name.
use Rattle.std.proofs.Common.{◌≡◌, ◌∙◌, Result, Ok, Err, IfOk, subst}

pub IfOk_same : {A E : Type 0} (r : Result A E) (a b : A) → a ≡ b → IfOk r (λ x. x ≡ a)
    → IfOk r (λ x. x ≡ b)
IfOk_same (Ok x) a b e h = h ∙ e
IfOk_same (Err y) a b e h = tt

-- an answer about what is the same
pub IfOk_moved : {A E X : Type 0} (r : Result A E) (P : X → A → Type 0) (a b : X) → a ≡ b
    → IfOk r (P a) → IfOk r (P b)
IfOk_moved (Ok x) P a b e h = subst (λ y. P y x) e h
IfOk_moved (Err y) P a b e h = tt
