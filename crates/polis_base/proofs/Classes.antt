-- The table of classes is held against the definitions at each of the 256 bytes, by computing.
use Rattle.std.proofs.Common.{◌≡◌, ℕ, zero, suc, ◌<◌, Bool, true, false, ◌&&◌, nat_eq, refl, arith, inl, inr}
use Rattle.std.specs.Bool.{beq}
use Rattle.std.proofs.lemmas.Bool.{cases_eq, eqb-true}
use Rattle.polis_base.proofs.Bools.{and_first, and_second}

-- two functions agree below n, where `same` tells that two values are equal
abbrev pub agree_below : {A : Type 0} → (A → A → Bool) → (ℕ → A) → (ℕ → A) → ℕ → Bool
agree_below same f g zero = true
agree_below same f g (suc n) = same (f n) (g n) && agree_below same f g n

agree_at : {A : Type 0} (same : A → A → Bool) → ((x y : A) → same x y ≡ true → x ≡ y)
    → (f g : ℕ → A) (n : ℕ) → agree_below same f g n ≡ true → (b : ℕ) → b < n → f b ≡ g b
agree_at same is f g zero h b lt = absurd (omega arith)
agree_at same is f g (suc n) h b lt =
    elim (cases_eq b n) [
      | inl at ↦ rw at (is (f n) (g n) (and_first (same (f n) (g n)) (agree_below same f g n) h))
      | inr other ↦ agree_at same is f g n
          (and_second (same (f n) (g n)) (agree_below same f g n) h) b (omega arith)
    ]

same_bool : (a b : Bool) → beq a b ≡ true → a ≡ b
same_bool true true h = refl
same_bool true false h = cc
same_bool false true h = cc
same_bool false false h = refl

pub tests_agree : (f g : ℕ → Bool) (b : ℕ) → b < 256 → agree_below beq f g 256 ≡ true → f b ≡ g b
tests_agree f g b lt h = agree_at beq same_bool f g 256 h b lt

pub numbers_agree : (f g : ℕ → ℕ) (b : ℕ) → b < 256 → agree_below nat_eq f g 256 ≡ true
    → f b ≡ g b
numbers_agree f g b lt h = agree_at nat_eq eqb-true f g 256 h b lt
