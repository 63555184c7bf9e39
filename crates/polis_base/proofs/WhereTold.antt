-- Facts of what a host tells.
use Rattle.std.proofs.Common.{◌≡◌, Some, None, sym, subst}
use Rattle.std.specs.Prelude.{Option}
use Rattle.polis_base.specs.Host.{WhereTold, Changes}

-- a fact of what is told, from another
pub told_from : {X : Type 0} (o : Option X) (P Q : X → Type 0) → ((x : X) → P x → Q x)
    → WhereTold o P → WhereTold o Q
told_from None P Q f h = tt
told_from (Some x) P Q f h = f x h

-- a fact of what is told, from two others
pub told_both : {X : Type 0} (o : Option X) (P Q R : X → Type 0) → ((x : X) → P x → Q x → R x)
    → WhereTold o P → WhereTold o Q → WhereTold o R
told_both None P Q R f h k = tt
told_both (Some x) P Q R f h k = f x h k

-- a fact that holds of all
pub told_always : {X : Type 0} (o : Option X) (P : X → Type 0) → ((x : X) → P x) → WhereTold o P
told_always None P f = tt
told_always (Some x) P f = f x

-- a fact of what was told and what is, from another
pub changes_from : {X : Type 0} (a b : Option X) (R S : X → X → Type 0)
    → ((x y : X) → R x y → S x y) → Changes a b R → Changes a b S
changes_from None None R S f h = tt
changes_from (Some x) (Some y) R S f h = f x y h
changes_from None (Some y) R S f h = h
changes_from (Some x) None R S f h = h

-- a change, of what was told with a fact of it
pub changes_where : {X : Type 0} (a b : Option X) (P : X → Type 0) (R S : X → X → Type 0)
    → ((x y : X) → P x → R x y → S x y) → WhereTold a P → Changes a b R → Changes a b S
changes_where None None P R S f p h = tt
changes_where (Some x) (Some y) P R S f p h = f x y p h
changes_where None (Some y) P R S f p h = h
changes_where (Some x) None P R S f p h = h

-- one change after another
pub changes_through : {X : Type 0} (a b c : Option X) (R S T : X → X → Type 0)
    → ((x y z : X) → R x y → S y z → T x z) → Changes a b R → Changes b c S → Changes a c T
changes_through None None None R S T f h k = tt
changes_through (Some x) (Some y) (Some z) R S T f h k = f x y z h k
changes_through None None (Some z) R S T f h k = k
changes_through None (Some y) c R S T f h k = absurd h
changes_through (Some x) None c R S T f h k = absurd h
changes_through (Some x) (Some y) None R S T f h k = k

-- what was told is told still
pub changes_same : {X : Type 0} (a b : Option X) (R : X → X → Type 0) → b ≡ a → ((x : X) → R x x)
    → Changes a b R
changes_same {X = X} a b R same each = subst (λ o. Changes a o R) (sym same) (always a)
  where
    always : (o : Option X) → Changes o o R
    always None = tt
    always (Some x) = each x

pub changes_some : {X : Type 0} (a b : Option X) (x y : X) (R : X → X → Type 0) → a ≡ Some x
    → b ≡ Some y → Changes a b R → R x y
changes_some a b x y R p q h =
    subst (λ o. Changes (Some x) o R) q (subst (λ o. Changes o b R) p h)
