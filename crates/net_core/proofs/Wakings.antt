-- The woken machines as a word.
use Rattle.std.specs.Prelude.{◌≡◌, ◌≢◌, ℕ, zero, suc, ◌<◌, ◌≤◌, Bool, false, cond, ◌==◌, List, [], ◌∷◌, ◌++◌}
use Rattle.std.specs.Int.{bit_at}
use Rattle.std.proofs.Common.{refl, sym, ap, ◌∙◌, inl, inr, arith}
use Rattle.std.proofs.lemmas.Bool.{cases_eq, cases_lt, eq-eqb, ne_eqb}
use Rattle.std.proofs.lemmas.Nat.Bits.{bit_at-zero, bit_at-lt, same_from_bits}
use Rattle.journals.specs.declared.entry.Entry.{Entry}
use Rattle.journals.specs.Journals.{is_woken}
use Rattle.journals.specs.Laws.{MovesWaking}
use Rattle.journals.specs.Moved.{machine_of, is_dep}

bit_off : (b : ℕ) → b < 2 → (b == 1) ≡ false → b ≡ 0
bit_off zero h e = refl
bit_off (suc zero) h e = cc
bit_off (suc (suc b)) h e = absurd (omega arith)

pub word_is_zero : (woken n : ℕ) (p : ℕ → Bool) → ((m : ℕ) → m < n → (bit_at woken m == 1) ≡ p m)
    → ((m : ℕ) → n ≤ m → bit_at woken m ≡ 0) → ((m : ℕ) → m < n → p m ≡ false) → woken ≡ 0
word_is_zero woken n p are others none =
    same_from_bits woken 0 (λ i. elim (cases_lt i n) [
      | inl below ↦ bit_off (bit_at woken i) (bit_at-lt woken i) (are i below ∙ none i below)
          ∙ sym (bit_at-zero i)
      | inr past ↦ others i past ∙ sym (bit_at-zero i)
    ])

pub zero_wakes_none : (woken n : ℕ) (p : ℕ → Bool) → ((m : ℕ) → m < n → (bit_at woken m == 1) ≡ p m)
    → woken ≡ 0 → (m : ℕ) → m < n → p m ≡ false
zero_wakes_none woken n p are is m below =
    sym (are m below) ∙ ap (λ w. bit_at w m == 1) is ∙ ap (λ b. b == 1) (bit_at-zero m)

-- one entry more
pub woken_after : (n m before after : ℕ) (journal : List Entry) (entry : Entry) (flag : Bool)
    → MovesWaking → m ≡ machine_of entry → flag ≡ is_dep entry
    → ((k : ℕ) → k < n → (bit_at before k == 1) ≡ is_woken journal k) → (bit_at after m == 1) ≡ flag
    → ((k : ℕ) → k ≢ m → bit_at after k ≡ bit_at before k)
    → (k : ℕ) → k < n → (bit_at after k == 1) ≡ is_woken (journal ++ entry ∷ []) k
woken_after n m before after journal entry flag law at dep were same others k below =
    (elim (cases_eq k m) [
      | inl here ↦
          ap (λ j. bit_at after j == 1) here ∙ same ∙ dep
          ∙ sym (ap (λ b. cond b (is_dep entry) (is_woken journal k))
          (eq-eqb (machine_of entry) k (sym at ∙ sym here)))
      | inr away ↦
          ap (λ b. b == 1) (others k away) ∙ were k below
          ∙ sym (ap (λ b. cond b (is_dep entry) (is_woken journal k))
          (ne_eqb (machine_of entry) k (λ e. away (sym (at ∙ e)))))
    ])
    ∙ sym (law journal entry k)

pub others_after : (n m before after : ℕ) → m < n → ((k : ℕ) → n ≤ k → bit_at before k ≡ 0)
    → ((k : ℕ) → k ≢ m → bit_at after k ≡ bit_at before k) → (k : ℕ) → n ≤ k → bit_at after k ≡ 0
others_after n m before after below were others k past =
    others k (λ e. absurd (omega arith)) ∙ were k past
