-- Outcomes that are found by their codes.
use Rattle.std.proofs.Common.{◌≡◌, ◌∙◌, ◌++◌, ◌∷◌, [], ℕ, List, Some, cond, length, sym, arith, ⊎_elim}
use Rattle.std.specs.Cmp.Lexicographic.{bytes_decides}
use Rattle.std.specs.Str.{bytes_eq}
use Rattle.std.proofs.lemmas.Bool.{cases_Bool, cond-true, cond-false}
use Rattle.std.proofs.lemmas.List.{length_push, get_or_push, get_or_append_left}
use Rattle.polis_base.specs.Index.{Keyed, found}
use Rattle.outcome_table.specs.Known.{AreKnown}

-- one more outcome leaves those that are known
pub known_before : (outcomes : List (List ℕ)) (codes : List ℕ) (known : Keyed)
    → AreKnown outcomes known → AreKnown (outcomes ++ codes ∷ []) known
known_before outcomes codes known are key k is =
    let a = are key k is in
    let low = a.0 in
    let long = length_push outcomes codes in
    (omega arith, get_or_append_left outcomes (codes ∷ []) [] k low ∙ a.1)

some_same : (a b : ℕ) → Some a ≡ Some b → a ≡ b
some_same a b e = let h = e in cc

-- the last outcome is known where its number is put under its codes
pub known_last : (outcomes : List (List ℕ)) (codes key : List ℕ) (old new : Keyed) (n : ℕ)
    → AreKnown outcomes old → key ≡ codes → n ≡ length outcomes
    → ((q : List ℕ) → found new q ≡ cond (bytes_eq key q) (Some n) (found old q))
    → AreKnown (outcomes ++ codes ∷ []) new
known_last outcomes codes key old new n are same last after q k is =
    ⊎_elim
    (λ e.
    let number : n ≡ k = some_same n k
    (sym (cond-true (bytes_eq key q) (Some n) (found old q) e) ∙ sym (after q) ∙ is) in
    let long = length_push outcomes codes in (
      omega arith,
      get_or_push outcomes codes [] k (sym last ∙ number) ∙ sym same
          ∙ (bytes_decides key q).0 e,
    ))
    (λ e. known_before outcomes codes old are q k
    (sym (cond-false (bytes_eq key q) (Some n) (found old q) e) ∙ sym (after q) ∙ is))
    (cases_Bool (bytes_eq key q))
