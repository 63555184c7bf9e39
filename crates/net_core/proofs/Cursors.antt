-- The places of the items that pass a test.
use Rattle.std.specs.Prelude.{◌≡◌, ℕ, ◌+◌, Bool, true, false, not, List, drop, slice_get, Some}
use Rattle.std.specs.List.{prefix_len}
use Rattle.std.proofs.Common.{refl, ap, ◌∙◌}
use Rattle.journals.proofs.Emitted.{drop_at_item}

-- ---- the first that passes, from a place on

pub first_here : {X : Type 0} (p : X → Bool) (xs : List X) (i : ℕ) (x : X) → slice_get xs i ≡ Some x
    → p x ≡ true → prefix_len (λ y. not (p y)) (drop i xs) ≡ 0
first_here {X} p xs i x at passes =
    let q : X → Bool = λ y. not (p y) in
    ap (prefix_len q) (drop_at_item xs i x at) ∙ rw passes refl

pub first_further : {X : Type 0} (p : X → Bool) (xs : List X) (i : ℕ) (x : X)
    → slice_get xs i ≡ Some x → p x ≡ false
    → prefix_len (λ y. not (p y)) (drop i xs) ≡ 1 + prefix_len (λ y. not (p y)) (drop (i + 1) xs)
first_further {X} p xs i x at fails =
    let q : X → Bool = λ y. not (p y) in
    ap (prefix_len q) (drop_at_item xs i x at) ∙ rw fails refl
