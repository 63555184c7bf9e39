-- Results of rows, code by code.
use Rattle.std.proofs.Common.{◌≡◌, ◌⊎◌, ◌<◌, ◌≤◌, ◌+◌, ◌-◌, ℕ, zero, suc, true, List, [], ◌∷◌, ◌++◌, length, slice_get, slice_index, Some, arith, refl, sym, ◌∙◌, ap, inl, inr}
use Rattle.std.proofs.lemmas.Bool.Decides.{eqb_tells}
use Rattle.std.proofs.lemmas.List.{get_or_push, get_or_append_left}
use Rattle.transition_table.specs.declared.row.Act.{Act}
use Rattle.transition_table.specs.declared.row.Row.{Row}
use Rattle.transition_table.specs.declared.machine.Machine.{Machine}
use Rattle.transition_table.specs.declared.snapshot.Snapshot.{Snapshot}
use Rattle.transition_table.specs.declared.snapshot.Outcome.{Outcome}
use Rattle.transition_table.specs.Transitions.{code_given, codes_given, outcome_of, result}
use Rattle.transition_table.proofs.CodesGiven.{codes_given_last, length_codes_given}

-- the code at a place
given_at : (m : Machine) (codes : List ℕ) (acts : List Act) (first n k : ℕ) → k < n
    → slice_index (codes_given m codes acts first n) k ≡ code_given m codes acts (first + k)
given_at m codes acts first zero k below = absurd (omega arith)
given_at m codes acts first (suc n) k below =
    let size = length_codes_given m codes acts first n in
    ap (λ (xs : List ℕ). slice_index xs k) (codes_given_last m codes acts first n)
    ∙ elim (eqb_tells k n) [
      | inl here ↦
          let last : n ≡ k = sym here.1 in
          get_or_push (codes_given m codes acts first n) (code_given m codes acts (first + n)) 0 k
          (size ∙ last) ∙ ap (λ j. code_given m codes acts (first + j)) last
      | inr apart ↦
          let before : k < n = let differ = apart.1 in omega arith in
          get_or_append_left (codes_given m codes acts first n)
          (code_given m codes acts (first + n) ∷ []) 0 k (omega arith)
          ∙ given_at m codes acts first n k before
    ]

-- the same codes of each result
same_given : (m : Machine) (codes : List ℕ) (acts others : List Act) (first n : ℕ)
    → ((k : ℕ) → first ≤ k → k < first + n
    → code_given m codes acts k ≡ code_given m codes others k)
    → codes_given m codes acts first n ≡ codes_given m codes others first n
same_given m codes acts others first zero each = refl
same_given m codes acts others first (suc n) each =
    codes_given_last m codes acts first n
    ∙ ap (λ (xs : List ℕ). xs ++ code_given m codes acts (first + n) ∷ [])
    (same_given m codes acts others first n (λ k from below. each k from (omega arith)))
    ∙ ap (λ c. codes_given m codes others first n ++ c ∷ [])
    (each (first + n) (omega arith) (omega arith))
    ∙ sym (codes_given_last m codes others first n)

-- rows that give each result the same code have the same result
pub same_result : (m : Machine) (s : Snapshot) (a b : ℕ) (first second : Row)
    → slice_get m.rows a ≡ Some first → slice_get m.rows b ≡ Some second
    → ((k : ℕ) → 1 ≤ k → k < 1 + length m.states + length m.outputs
    → code_given m s.codes first.acts k ≡ code_given m s.codes second.acts k)
    → result m a s ≡ result m b s
same_result m s a b first second at_a at_b each =
    let next = same_given m s.codes first.acts second.acts 1 (length m.states)
    (λ k from below. each k from (omega arith)) in
    let outs = same_given m s.codes first.acts second.acts (1 + length m.states) (length m.outputs)
    (λ k from below. each k (omega arith) below) in
    let own : outcome_of m s.codes true first.acts ≡ outcome_of m s.codes true second.acts =
    λ i. record { fires = true; next = next i; outs = outs i } in
    rw (at_a, at_b) own

-- and rows with the same result give each the same code
pub same_codes : (m : Machine) (s : Snapshot) (a b : ℕ) (first second : Row)
    → slice_get m.rows a ≡ Some first → slice_get m.rows b ≡ Some second
    → result m a s ≡ result m b s → (k : ℕ) → 1 ≤ k → k < 1 + length m.states + length m.outputs
    → code_given m s.codes first.acts k ≡ code_given m s.codes second.acts k
same_codes m s a b first second at_a at_b same k from below =
    let own : outcome_of m s.codes true first.acts ≡ outcome_of m s.codes true second.acts =
    rw (at_a, at_b) at same in
    elim (side k from) [
      | inl state ↦
          let place : k - 1 < length m.states = omega arith in
          let back : 1 + (k - 1) ≡ k = omega arith in
          rw back at (sym (given_at m s.codes first.acts 1 (length m.states) (k - 1) place)
          ∙ ap (λ (o : Outcome). slice_index o.next (k - 1)) own
          ∙ given_at m s.codes second.acts 1 (length m.states) (k - 1) place)
      | inr output ↦
          let place : k - (1 + length m.states) < length m.outputs = omega arith in
          let back : 1 + length m.states + (k - (1 + length m.states)) ≡ k = omega arith in
          rw back at (sym
          (given_at m s.codes first.acts (1 + length m.states) (length m.outputs)
          (k - (1 + length m.states)) place)
          ∙ ap (λ (o : Outcome). slice_index o.outs (k - (1 + length m.states))) own
          ∙ given_at m s.codes second.acts (1 + length m.states) (length m.outputs)
          (k - (1 + length m.states)) place)
    ]
  where
    side : (k : ℕ) → 1 ≤ k → (k < 1 + length m.states) ⊎ (1 + length m.states ≤ k)
    side k from = split k (1 + length m.states)
      where
        split : (x y : ℕ) → (x < y) ⊎ (y ≤ x)
        split zero zero = inr (omega arith)
        split zero (suc y) = inl (omega arith)
        split (suc x) zero = inr (omega arith)
        split (suc x) (suc y) =
            elim (split x y) [
              | inl below ↦ inl (omega arith)
              | inr over ↦ inr (omega arith)
            ]
