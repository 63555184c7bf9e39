-- The least codes at which any of the results before one differs.
use Rattle.std.proofs.Common.{◌≡◌, ◌≢◌, ◌⊎◌, ◌<◌, ◌≤◌, ◌+◌, ℕ, zero, suc, Bool, true, false, List, slice_get, Some, arith, refl, sym, ◌∙◌, subst, inl, inr}
use Rattle.std.specs.List.{list_all}
use Rattle.std.proofs.lemmas.Bool.Decides.{eqb_tells}
use Rattle.std.proofs.lemmas.Bool.{cases_lt}
use Rattle.transition_table.specs.declared.row.Row.{Row}
use Rattle.transition_table.specs.declared.machine.Machine.{Machine}
use Rattle.transition_table.specs.declared.snapshot.Snapshot.{Snapshot}
use Rattle.transition_table.specs.Transitions.{allows, code_given, Conflict}
use Rattle.determinism.specs.inner.Boxes.{IsIn, EnableBoth, Before}
use Rattle.determinism.specs.inner.Pairs.{Differ, results_end, IsLeastAt, IsBest}
use Rattle.determinism.specs.inner.Conflicts.{IsLeastOf}
use Rattle.determinism.specs.declared.pair.Pair.{Pair}
use Rattle.determinism.proofs.Befores.{before_trans, up_to}
use Rattle.determinism.proofs.Results.{same_result, same_codes}

never : true ≡ false → ⊥
never h = cc

-- the result differs first after the best so far
pub best_stays : (pair : Pair) (y : ℕ) (best codes : List ℕ) → IsBest pair y true best
    → IsLeastAt pair y codes → Before best codes → IsBest pair (y + 1) true best
best_stays pair y best codes h at before = record {
  none = λ f. absurd (never f);
  inside = h.inside;
  differ = λ f. let d = h.differ f in (d.0, d.1, (let below = d.2 in omega arith), d.3);
  least = λ f k t from below inside differ.
      elim (cases_lt k y) [
        | inl earlier ↦ h.least f k t from earlier inside differ
        | inr over ↦ let here : k ≡ y = omega arith in
            before_trans best codes t before
            (at.least t inside (subst (λ j. Differ pair j t) here differ))
      ];
}

-- the result differs first before the best so far
pub best_moves : (pair : Pair) (y : ℕ) (found : Bool) (best codes : List ℕ) → 1 ≤ y
    → IsBest pair y found best → IsLeastAt pair y codes → (found ≡ true → Before codes best)
    → IsBest pair (y + 1) true codes
best_moves pair y found best codes some h at before = record {
  none = λ f. absurd (never f);
  inside = λ f. at.inside;
  differ = λ f. (y, some, omega arith, at.differ);
  least = λ f k t from below inside differ.
      elim (cases_lt k y) [
        | inl earlier ↦ earlier_ones found refl k t from earlier inside differ
        | inr over ↦ let here : k ≡ y = omega arith in
            at.least t inside (subst (λ j. Differ pair j t) here differ)
      ];
}
  where
    earlier_ones : (b : Bool) → found ≡ b → (k : ℕ) (t : List ℕ) → 1 ≤ k → k < y
        → IsIn pair.sets.now t → Differ pair k t → Before codes t
    earlier_ones true is k t from earlier inside differ =
        before_trans codes best t (before is) (h.least is k t from earlier inside differ)
    earlier_ones false is k t from earlier inside differ =
        absurd (h.none is k from earlier t inside differ)

-- all results are the same, or one differs
some_differs : (n : ℕ) (f g : ℕ → ℕ)
    → ((k : ℕ) → 1 ≤ k → k < n → f k ≡ g k) ⊎ ((k : ℕ) × (1 ≤ k) × (k < n) × (f k ≢ g k))
some_differs zero f g = inl (λ k from below. absurd (omega arith))
some_differs (suc zero) f g = inl (λ k from below. absurd (omega arith))
some_differs (suc (suc n)) f g =
    elim (some_differs (suc n) f g) [
      | inr there ↦ inr (there.0, there.1, (let below = there.2 in omega arith), there.3)
      | inl same ↦ elim (eqb_tells (f (suc n)) (g (suc n))) [
        | inl here ↦ inl (λ k from below. last_one n f g same here.1 k from below)
        | inr apart ↦ inr (suc n, omega arith, omega arith, apart.1)
      ]
    ]
  where
    last_one : (n : ℕ) (f g : ℕ → ℕ) → ((k : ℕ) → 1 ≤ k → k < suc n → f k ≡ g k)
        → f (suc n) ≡ g (suc n) → (k : ℕ) → 1 ≤ k → k < suc (suc n) → f k ≡ g k
    last_one n f g same here k from below =
        elim (cases_lt k (suc n)) [
          | inl before ↦ same k from before
          | inr over ↦ let own : suc n ≡ k = omega arith in subst (λ j. f j ≡ g j) own here
        ]

-- a conflict enables both rows, and some result differs
enables : (m : Machine) (a b : ℕ) (first second : Row) (t : Snapshot)
    → slice_get m.rows a ≡ Some first → slice_get m.rows b ≡ Some second → Conflict m a b t
    → EnableBoth m first second t.codes
enables m a b first second t at_a at_b c =
    let on_first : list_all (allows t.codes) first.conds ≡ true = rw at_a at c.first in
    let on_second : list_all (allows t.codes) second.conds ≡ true = rw at_b at c.second in
    record { snapshot = c.snapshot; of_first = on_first; of_second = on_second }

differs : (pair : Pair) (a b : ℕ) (t : Snapshot)
    → slice_get pair.machine.now.rows a ≡ Some pair.first.now
    → slice_get pair.machine.now.rows b ≡ Some pair.second.now → Conflict pair.machine.now a b t
    → (k : ℕ) × (1 ≤ k) × (k < results_end pair) × Differ pair k t.codes
differs pair a b t at_a at_b c =
    let m = pair.machine.now in
    elim (some_differs (results_end pair) (code_given m t.codes pair.first.now.acts)
    (code_given m t.codes pair.second.now.acts)) [
      | inl same ↦
          absurd (c.differ (same_result m t a b pair.first.now pair.second.now at_a at_b same))
      | inr there ↦ there
    ]

pub best_none : {pair : Pair} (a b : ℕ) (found : Bool) (best : List ℕ)
    → IsBest pair (results_end pair) found best
    → slice_get pair.machine.now.rows a ≡ Some pair.first.now
    → slice_get pair.machine.now.rows b ≡ Some pair.second.now → found ≡ false
    → (t : Snapshot) → Conflict pair.machine.now a b t → ⊥
best_none {pair} a b found best h at_a at_b none t c =
    let on = enables pair.machine.now a b pair.first.now pair.second.now t at_a at_b c in
    let d = differs pair a b t at_a at_b c in
    h.none none d.0 d.1 d.2 t.codes (pair.area.whole t.codes on) d.3

pub best_conflict : {pair : Pair} (a b : ℕ) (found : Bool) (best : Snapshot)
    → IsBest pair (results_end pair) found best.codes → a < b
    → slice_get pair.machine.now.rows a ≡ Some pair.first.now
    → slice_get pair.machine.now.rows b ≡ Some pair.second.now → found ≡ true
    → IsLeastOf pair.machine.now a b best
best_conflict {pair} a b found best h order at_a at_b some =
    let m = pair.machine.now in
    let first = pair.first.now in
    let second = pair.second.now in
    let both = pair.area.inside best.codes (h.inside some) in
    let d = h.differ some in
    record {
      conflict = record {
        order = order;
        snapshot = both.snapshot;
        first = rw at_a both.of_first;
        second = rw at_b both.of_second;
        differ = λ same. d.3 (same_codes m best a b first second at_a at_b same d.0 d.1 d.2);
      };
      least = λ t c.
          let inside = pair.area.whole t.codes (enables m a b first second t at_a at_b c) in
          let e = differs pair a b t at_a at_b c in
          up_to best.codes t.codes ((h.inside some).long ∙ sym inside.long)
          (h.least some e.0 t.codes e.1 e.2 inside e.3);
    }
