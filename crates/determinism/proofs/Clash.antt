-- The least conflicts of two machines.
use Rattle.std.proofs.Common.{◌≡◌, ◌≢◌, ◌⊎◌, ◌<◌, ◌≤◌, ℕ, zero, suc, true, List, [], ◌∷◌, arith, subst, sym, refl, inl, inr}
use Rattle.std.specs.Cmp.Lexicographic.{slice_cmp}
use Rattle.std.specs.Ordering.{nat_cmp}
use Rattle.std.specs.declared.cmp.Ordering.TheVariants.{Greater}
use Rattle.std.proofs.lemmas.Bool.{ltb-true, false≢true}
use Rattle.transition_table.specs.declared.snapshot.Snapshot.{Snapshot}
use Rattle.transition_table.specs.samples.Clash.{clash_machine}
use Rattle.transition_table.specs.samples.Twice.{differing_machine}
use Rattle.transition_table.specs.Transitions.{Conflict, is_enabled}
use Rattle.transition_table.specs.Transitions.{reading}
use Rattle.domains.specs.Tables.{fits}
use Rattle.determinism.proofs.Overlaps.{below_size}
use Rattle.determinism.specs.Conflicts.{IsLeastConflict}
use Rattle.domains.proofs.Ranks.{length_fits}
use Rattle.transition_table.proofs.Tables.{one_code}

-- two codes, each 0 or 1
two_bits : (P : List ℕ → Type 0) → P (0 ∷ 0 ∷ []) → P (0 ∷ 1 ∷ []) → P (1 ∷ 0 ∷ []) → P (1 ∷ 1 ∷ [])
    → (codes : List ℕ) → fits (2 ∷ 2 ∷ []) codes ≡ true → P codes
two_bits P a b c d [] fit = absurd (false≢true fit)
two_bits P a b c d (x ∷ []) fit =
    absurd (let two = length_fits (2 ∷ 2 ∷ []) (x ∷ []) fit in omega arith)
two_bits P a b c d (x ∷ y ∷ z ∷ codes) fit =
    absurd (let two = length_fits (2 ∷ 2 ∷ []) (x ∷ y ∷ z ∷ codes) fit in omega arith)
two_bits P a b c d (x ∷ y ∷ []) fit =
    pick x y (ltb-true x 2 (below_size (2 ∷ 2 ∷ []) (x ∷ y ∷ []) 0 fit (omega arith)))
    (ltb-true y 2 (below_size (2 ∷ 2 ∷ []) (x ∷ y ∷ []) 1 fit (omega arith)))
  where
    pick : (x y : ℕ) → x < 2 → y < 2 → P (x ∷ y ∷ [])
    pick zero zero u v = a
    pick zero (suc zero) u v = b
    pick (suc zero) zero u v = c
    pick (suc zero) (suc zero) u v = d
    pick zero (suc (suc y)) u v = absurd (omega arith)
    pick (suc zero) (suc (suc y)) u v = absurd (omega arith)
    pick (suc (suc x)) y u v = absurd (omega arith)

-- no snapshot enables the first two rows
first_two : (codes : List ℕ) → fits (2 ∷ 2 ∷ []) codes ≡ true
    → is_enabled clash_machine 0 (reading codes) ≡ true
    → is_enabled clash_machine 1 (reading codes) ≡ true → ⊥
first_two = two_bits (λ codes. is_enabled clash_machine 0 (reading codes) ≡ true
    → is_enabled clash_machine 1 (reading codes) ≡ true → ⊥) (λ first second. false≢true first)
    (λ first second. false≢true first) (λ first second. false≢true second) (λ first second. false≢true second)

-- one snapshot enables the first and the third
both_present : (codes : List ℕ) → fits (2 ∷ 2 ∷ []) codes ≡ true
    → is_enabled clash_machine 2 (reading codes) ≡ true
    → slice_cmp nat_cmp (1 ∷ 1 ∷ []) codes ≢ Greater
both_present = two_bits (λ codes. is_enabled clash_machine 2 (reading codes) ≡ true
    → slice_cmp nat_cmp (1 ∷ 1 ∷ []) codes ≢ Greater) (λ third. absurd (false≢true third))
    (λ third. absurd (false≢true third)) (λ third. absurd (false≢true third)) (λ third h. cc)

least_pair : (c d : ℕ) (t : Snapshot) → Conflict clash_machine c d t → (0 < c) ⊎ ((0 ≡ c) × (2 ≤ d))
least_pair (suc c) d t h = inl (omega arith)
least_pair zero zero t h = absurd (let order = h.order in omega arith)
least_pair zero (suc zero) t h = absurd (first_two t.codes h.snapshot h.first h.second)
least_pair zero (suc (suc d)) t h = inr (refl, omega arith)

pub clash_conflict : Conflict clash_machine 0 2 (reading (1 ∷ 1 ∷ []))
    → IsLeastConflict clash_machine 0 2 (reading (1 ∷ 1 ∷ []))
clash_conflict h = record {
  conflict = h;
  least_pair = least_pair;
  least_snapshot = λ t other. both_present t.codes other.snapshot other.second;
}

only_pair : (c d : ℕ) (t : Snapshot) → Conflict differing_machine c d t
    → (0 < c) ⊎ ((0 ≡ c) × (1 ≤ d))
only_pair (suc c) d t h = inl (omega arith)
only_pair zero zero t h = absurd (let order = h.order in omega arith)
only_pair zero (suc d) t h = inr (refl, omega arith)

pub differing_conflict : Conflict differing_machine 0 1 (reading (2 ∷ []))
    → IsLeastConflict differing_machine 0 1 (reading (2 ∷ []))
differing_conflict h = record {
  conflict = h;
  least_pair = only_pair;
  least_snapshot =
      λ t other. subst (λ codes. slice_cmp nat_cmp (2 ∷ []) codes ≢ Greater)
      (sym (one_code t.codes other.snapshot other.second)) (λ e. cc);
}
