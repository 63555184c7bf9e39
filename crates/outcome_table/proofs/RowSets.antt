-- Sets of the rows that allow a code.
use Rattle.std.proofs.Common.{◌≡◌, ℕ, ◌+◌, ◌<◌, ◌≤◌, Bool, true, false, ◌&&◌, ◌||◌, ◌==◌, List, [], ◌∷◌, ◌++◌, length, slice_get, Some, get_or, subst, refl, sym, ap, ◌∙◌, inl, inr, arith}
use Rattle.std.specs.Prelude.{filter}
use Rattle.std.proofs.lemmas.Bool.{cases_eq, cases_lt, eq-eqb, ne_eqb}
use Rattle.std.proofs.lemmas.List.{get_or_append_left, get_or_push}
use Rattle.std.proofs.lemmas.Option.{same_Some}
use Rattle.polis_base.specs.Lists.{upto}
use Rattle.polis_base.specs.Sets.{has_member, members_of}
use Rattle.polis_base.proofs.Lists.{same_below}
use Rattle.polis_base.proofs.WideSets.{filter_twice}
use Rattle.transition_table.specs.RowCodes.{row_allows}
use Rattle.transition_table.specs.declared.machine.Machine.{Machine}
use Rattle.transition_table.specs.declared.row.Row.{Row}
use Rattle.outcome_table.specs.inner.RowSets.{AreBefore}

-- a set and itself
pub rows_twice : (set : List ℕ) → filter (has_member set) (members_of set) ≡ members_of set
unfolding members_of
rows_twice set =
    filter_twice (has_member set) (has_member set) (upto 512)
    ∙ same_below (λ r. has_member set r && has_member set r) (has_member set) 512
    (λ r low. twice (has_member set r))
  where
    twice : (b : Bool) → (b && b) ≡ b
    twice true = refl
    twice false = refl

-- one more row, which allows the code or doesn't
pub row_added : (m : Machine) (var code r : ℕ) (row : Row) (old new : List ℕ)
    → AreBefore m var code r old → slice_get m.rows r ≡ Some row
    → ((k : ℕ)
    → has_member new k ≡ (k == r && row_allows m.vars row var code || has_member old k))
    → AreBefore m var code (r + 1) new
row_added m var code r row old new before at is = record {
  each = λ k other low there.
      elim (cases_eq k r) [
        | inl same ↦
            let here : k ≡ r = same in
            let own : row ≡ other = same_Some row other
            (sym at ∙ subst (λ i. slice_get m.rows i ≡ Some other) here there) in
            turn k true (eq-eqb k r here)
            ∙ ap (λ b. row_allows m.vars row var code || b) (before.rest k (omega arith))
            ∙ or_false (row_allows m.vars row var code)
            ∙ ap (λ (x : Row). row_allows m.vars x var code) own
        | inr apart ↦
            turn k false (ne_eqb k r apart)
            ∙ before.each k other (omega (arith, apart)) there
      ];
  rest = λ k past.
      turn k false (ne_eqb k r (λ e. omega (arith, e))) ∙ before.rest k (omega arith);
}
  where
    turn : (k : ℕ) (b : Bool) → (k == r) ≡ b
        → has_member new k ≡ (b && row_allows m.vars row var code || has_member old k)
    turn k b h =
        is k ∙ ap (λ x. x && row_allows m.vars row var code || has_member old k) h

    or_false : (b : Bool) → (b || false) ≡ b
    or_false true = refl
    or_false false = refl

-- one more set
pub pushed : (P : ℕ → List ℕ → Type 0) (xs : List (List ℕ)) (x : List ℕ) (n : ℕ) → length xs ≡ n
    → ((k : ℕ) → k < n → P k (get_or xs k [])) → P n x
    → (k : ℕ) → k < n + 1 → P k (get_or (xs ++ x ∷ []) k [])
pushed P xs x n long each last k low =
    elim (cases_lt k n) [
      | inl below ↦ let less : k < n = below in
          subst (P k) (sym (get_or_append_left xs (x ∷ []) [] k (omega arith))) (each k less)
      | inr past ↦ let more : n ≤ k = past in
          let here : n ≡ k = omega arith in
          subst (P k) (sym (get_or_push xs x [] k (long ∙ here)))
          (subst (λ i. P i x) here last)
    ]
