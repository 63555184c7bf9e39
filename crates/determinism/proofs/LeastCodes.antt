-- The least codes at which a result differs.
use Rattle.std.proofs.Common.{◌≡◌, ◌≢◌, ◌==◌, false, ◌⊎◌, ◌<◌, ◌≤◌, ◌+◌, ℕ, zero, suc, List, ◌∷◌, ◌++◌, length, slice_get, slice_index, slice_set, Some, arith, refl, sym, ◌∙◌, ap, subst, inl, inr, []}
use Rattle.std.specs.Int.{bit_at}
use Rattle.std.proofs.lemmas.List.{length-set, get_or-set_same, get_or-set_other, nil_from_length}
use Rattle.std.proofs.lemmas.Bool.{eq-eqb, false≢true}
use Rattle.std.proofs.lemmas.Bool.Decides.{eqb_tells}
use Rattle.determinism.specs.inner.Boxes.{IsIn, AreLeast, SameBut, Before}
use Rattle.determinism.specs.inner.Pairs.{Agree, Differ, HangsOn}
use Rattle.determinism.specs.declared.pair.Pair.{Pair}
use Rattle.determinism.proofs.Befores.{before_all, before_at}

-- another code of a set
pub in_set : (sets codes : List ℕ) (v code : ℕ) → IsIn sets codes → v < length sets
    → bit_at (slice_index sets v) code ≡ 1 → IsIn sets (slice_set codes v code)
in_set sets codes v code h below set = record {
  long = length-set codes v code ∙ h.long;
  each = λ k within.
      elim (eqb_tells k v) [
        | inl here ↦
            let long = h.long in
            subst (λ j. bit_at (slice_index sets j) (slice_index (slice_set codes v code) j) ≡ 1)
            (sym here.1) (ap (bit_at (slice_index sets v))
            (get_or-set_same codes v code 0 (omega arith)) ∙ set)
        | inr apart ↦ ap (bit_at (slice_index sets k)) (get_or-set_other codes v k code 0 apart.1)
            ∙ h.each k within
      ];
}

-- a code that a set doesn't have
pub not_there : (sets t : List ℕ) (v code : ℕ) → IsIn sets t → v < length sets
    → slice_index t v ≡ code → (bit_at (slice_index sets v) code == 1) ≡ false → ⊥
not_there sets t v code h below at fails =
    false≢true (sym fails ∙ eq-eqb (bit_at (slice_index sets v) code) 1
    (subst (λ c. bit_at (slice_index sets v) c ≡ 1) at (h.each v below)))

-- codes that agree where the rows read
pub same_there : (pair : Pair) (y u v : ℕ) (t codes : List ℕ) → HangsOn pair y u v
    → slice_index t u ≡ slice_index codes u → slice_index t v ≡ slice_index codes v
    → Agree pair y codes → Differ pair y t → ⊥
same_there pair y u v t codes reads at_u at_v same differ =
    differ (reads.of_first t codes at_u at_v ∙ same ∙ sym (reads.of_second t codes at_u at_v))

pub set_agrees : (codes t : List ℕ) (u v code : ℕ) → v < length codes
    → (u ≢ v → slice_index t u ≡ slice_index codes u) → slice_index t v ≡ code
    → (slice_index t u ≡ slice_index (slice_set codes v code) u)
    × (slice_index t v ≡ slice_index (slice_set codes v code) v)
set_agrees codes t u v code below at_u at_v =
    let own : slice_index t v ≡ slice_index (slice_set codes v code) v =
    at_v ∙ sym (get_or-set_same codes v code 0 below) in
    elim (eqb_tells u v) [
      | inl here ↦ (
        subst (λ j. slice_index t j ≡ slice_index (slice_set codes v code) j)
            (sym here.1) own,
        own,
      )
      | inr apart ↦ (at_u apart.1 ∙ sym (get_or-set_other codes v u code 0 apart.1), own)
    ]

-- where there is no variable there is one list
pub only_one : (sets codes t : List ℕ) → length sets ≡ 0 → IsIn sets codes → IsIn sets t → codes ≡ t
only_one sets codes t none inside there =
    nil_from_length codes (inside.long ∙ none) ∙ sym (nil_from_length t (there.long ∙ none))

pub only_before : (sets codes t : List ℕ) → length sets ≡ 0 → IsIn sets codes → IsIn sets t
    → Before codes t
only_before sets codes t none inside there =
    subst (λ xs. Before xs t) (sym (nil_from_length codes (inside.long ∙ none))) tt

-- the least of two codes, all others being least
pub pair_before : (sets base codes t : List ℕ) (u v : ℕ) → u < v → v < length sets
    → AreLeast sets base → IsIn sets codes → SameBut u v codes base → IsIn sets t
    → (slice_index codes u < slice_index t u)
    ⊎ ((slice_index codes u ≡ slice_index t u) × (slice_index codes v ≤ slice_index t v))
    → Before codes t
pair_before sets base codes t u v order below least inside same there (inl less) =
    let long = inside.long in
    before_at codes t u (inside.long ∙ sym there.long) (omega arith)
    (λ k within.
    let own = same k (λ e. let w = within in omega (arith, e)) (λ e. let w = within in
    omega (arith, e)) in
    let low = least.least k (slice_index t k) (omega arith) (there.each k (omega arith)) in
    omega arith)
    less
pair_before sets base codes t u v order below least inside same there (inr (here, up)) =
    let long = inside.long in
    before_all codes t (inside.long ∙ sym there.long) (λ k within.
    elim (eqb_tells k u) [
      | inl at_u ↦ subst (λ j. slice_index codes j ≤ slice_index t j) (sym at_u.1) (let e = here in
          omega arith)
      | inr not_u ↦ elim (eqb_tells k v) [
        | inl at_v ↦ subst (λ j. slice_index codes j ≤ slice_index t j) (sym at_v.1) up
        | inr not_v ↦
            let own = same k not_u.1 not_v.1 in
            let low = least.least k (slice_index t k) (omega arith) (there.each k (omega arith)) in
            omega arith
      ]
    ])

pub single_before : (sets base codes t : List ℕ) (v : ℕ) → AreLeast sets base → IsIn sets codes
    → ((k : ℕ) → k ≢ v → slice_index codes k ≡ slice_index base k) → IsIn sets t
    → slice_index codes v ≤ slice_index t v → Before codes t
single_before sets base codes t v least inside same there up =
    let long = inside.long in
    before_all codes t (inside.long ∙ sym there.long) (λ k within.
    elim (eqb_tells k v) [
      | inl at_v ↦ subst (λ j. slice_index codes j ≤ slice_index t j) (sym at_v.1) up
      | inr not_v ↦
          let own = same k not_v.1 in
          let low = least.least k (slice_index t k) (omega arith) (there.each k (omega arith)) in
          omega arith
    ])

-- what holds of the items before a place holds up to the place where it is written
pub written : (xs : List ℕ) (k x : ℕ) (P : ℕ → ℕ → Type 0) → k < length xs
    → ((j : ℕ) → j < k → P j (slice_index xs j)) → P k x → (j : ℕ) → j < k + 1
    → P j (slice_index (slice_set xs k x) j)
written xs k x P below prefix here j within =
    elim (eqb_tells j k) [
      | inl at ↦ subst (λ i. P i (slice_index (slice_set xs k x) i)) (sym at.1)
          (subst (P k) (sym (get_or-set_same xs k x 0 below)) here)
      | inr apart ↦ subst (P j) (sym (get_or-set_other xs k j x 0 apart.1))
          (prefix j (let differ = apart.1 in omega arith))
    ]

-- an item of a list with one more at its end
pub last_or_before : {X : Type 0} (table : List X) (masks xs : X) (k : ℕ)
    → slice_get (table ++ masks ∷ []) k ≡ Some xs
    → (slice_get table k ≡ Some xs) ⊎ ((k ≡ length table) × (masks ≡ xs))
last_or_before [] masks xs zero at = inr (refl, cc)
last_or_before [] masks xs (suc k) at = cc
last_or_before (first ∷ table) masks xs zero at = inl at
last_or_before (first ∷ table) masks xs (suc k) at =
    elim (last_or_before table masks xs k at) [
      | inl before ↦ inl before
      | inr last ↦ inr (ap suc last.0, last.1)
    ]
